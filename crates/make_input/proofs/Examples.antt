-- The first draws of the number 1, and its files of two rows.
use Rattle.std.proofs.Common.{◌≡◌, [], ◌∷◌, map, refl}
use Rattle.std.specs.Prelude.{codes}
use Rattle.std.specs.Fmt.{digits}
use Rattle.make_input.specs.Input.{draw, row_text, rows_text, files}

pub first_draws : map (draw 1) (1 ∷ 2 ∷ 3 ∷ 4 ∷ 5 ∷ 6 ∷ 7 ∷ 8 ∷ 9 ∷ 10 ∷ 11 ∷ 12 ∷ 13 ∷ 14 ∷ 15 ∷ 16 ∷ [])
    ≡ 1103527590 ∷ 377401575 ∷ 662824084 ∷ 1147902781 ∷ 2035015474 ∷ 368800899 ∷ 1508029952 ∷ 486256185
    ∷ 1062517886 ∷ 267834847 ∷ 180171308 ∷ 836760821 ∷ 595337866 ∷ 790425851 ∷ 2111915288 ∷ 1149758321 ∷ []
unfolding draw
first_draws = refl

pub two_rows : files 1 2 ≡ codes "a,b,w\n0,0,758\n0,0,515\n" ∷ codes "b,c,w\n0,0,627\n0,0,419\n" ∷ codes "c,d,w\n0,0,86\n0,0,767\n" ∷ codes "d,e,w\n0,0,60\n0,0,543\n" ∷ []
unfolding draw row_text rows_text digits
two_rows = refl
