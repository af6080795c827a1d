-- Equations with their ends written out. What a call ensures names its ends by long terms, and antt writes these out wherever it has to find them by itself.
use Rattle.std.proofs.Common.{◌≡◌, sym, ap, subst}

pub along : {A : Type 0} (P : A → Type 0) (x y : A) → x ≡ y → P x → P y
along P x y e h = subst P e h

pub back : {A : Type 0} (P : A → Type 0) (x y : A) → y ≡ x → P x → P y
back P x y e h = subst P (sym e) h

pub same : {A B : Type 0} (f : A → B) (x y : A) → x ≡ y → f x ≡ f y
same f x y e = ap f e
