use Rattle.std.proofs.Common.{◌≡◌, ◌∙◌, ◌<◌, ◌+◌, ◌∷◌, ℕ, suc, Bool, List, Bor, length, drop, map, cond, get_or, ap, sym, arith}
use Rattle.std.proofs.Math.Seq.{drop-cons}
use Rattle.std.proofs.lemmas.List.{drop_all}
use Rattle.std.specs.Char.{to_ascii_lowercase}
use Rattle.std.specs.Str.{bytes_eq}
use Rattle.query_select.specs.Keywords.{kind_among}
use Rattle.query_select.specs.declared.token.Kind.{Kind}
use Rattle.query_select.proofs.scanner.kind_among.Goals as goal

-- one turn of the search
turn : (ks : List (Bor (List ℕ) × Kind)) (i : ℕ) (d : Bor (List ℕ) × Kind) (word : List ℕ) (b : Bool) → i < length ks
    → bytes_eq (map to_ascii_lowercase word) (map to_ascii_lowercase (get_or ks i d).0.now) ≡ b
    → kind_among (drop i ks) word ≡ cond b (get_or ks i d).1 (kind_among (drop (i + 1) ks) word)
turn ks i d word b h e =
    let next : suc i ≡ i + 1 = omega arith in
    ap (λ (l : List (Bor (List ℕ) × Kind)). kind_among l word) (drop-cons ks i d h ∙ ap (λ (k : ℕ). get_or ks i d ∷ drop k ks) next)
    ∙ ap (λ (t : Bool). cond t (get_or ks i d).1 (kind_among (drop (i + 1) ks) word)) e

pub returns-then-is_keyword : goal.returns-then-is_keyword
returns-then-is_keyword c =
    sym (turn c.args.keywords.now c.loop-keyword.keyword-index _ c.args.word.now _ c.loop-keyword-test.true (sym c.is_keyword.ensures ∙ c.if-is_keyword.true)) ∙ c.loop-keyword.invariant

pub loop-keyword-preserved : goal.loop-keyword-preserved
loop-keyword-preserved c =
    sym (turn c.args.keywords.now c.loop-keyword.keyword-index _ c.args.word.now _ c.loop-keyword-test.true (sym c.is_keyword.ensures ∙ c.if-is_keyword.false)) ∙ c.loop-keyword.invariant

pub returns : goal.returns
returns c =
    sym (ap (λ (l : List (Bor (List ℕ) × Kind)). kind_among l c.args.word.now) (drop_all c.loop-keyword.keyword-index c.args.keywords.now c.loop-keyword-test.false)) ∙ c.loop-keyword.invariant
