-- What contracts see of a style.
use Rattle.std.specs.Prelude.{option_map}
use Rattle.anyk_model.specs.Output as output
use Rattle.answer_print.specs.declared.style.Style.{Style}

-- the style, with the cursor's name as its bytes
abbrev pub style_view : Style → output.Style
style_view s = record
    { ranks = s.ranks; rows = s.rows; cursor = option_map (λ name. name.now) s.cursor }
