-- The items of all selects, one select after another, and the first of them whose table no entry names.
use Rattle.std.proofs.Common.{◌≡◌, ◌+◌, ◌<◌, ◌≤◌, ◌∷◌, ◌++◌, [], ℕ, List, length, drop, take, get_or, Option, Some, None, Result, Ok, Err, refl, sym, ap, ◌∙◌, subst, arith}
use Rattle.std.proofs.lemmas.List.{append-nil, drop_all, drop_more, length-append, take-append-drop, take_all, take_more}
use Rattle.std.proofs.lemmas.Grind.{flat_map-append}
use Rattle.std.specs.Option.{option_or}
use Rattle.std.specs.List.{flat_map}
use Rattle.outer_io.specs.Files.{bytes_of}
use Rattle.query_select.specs.declared.select.ItemRef.{ItemRef}
use Rattle.query_select.specs.declared.select.Select.{Select}
use Rattle.refusals.specs.Reason as reason
use Rattle.refusals.specs.Reason.{Reason}
use Rattle.verdict.specs.Loading.{all_items, unknown_table, unknown_with}
use Rattle.verdict.specs.StageResults.{Pure}
use Rattle.session_script.specs.Script.{unless}
use Rattle.verdict.specs.Stages.{Is}
use Rattle.command_input.specs.Entries.{HasUses}
use Rattle.command_input.proofs.FirstUses.{few_uses}

pub all_items_flat : (selects : List Select) → all_items selects ≡ flat_map (λ (s : Select). s.items) selects
all_items_flat [] = refl
all_items_flat (select ∷ []) = sym (append-nil select.items)
all_items_flat (select ∷ other ∷ selects) = ap (λ (l : List ItemRef). select.items ++ l) (all_items_flat (other ∷ selects))

pub all_items_cons : (select : Select) (selects : List Select) → all_items (select ∷ selects) ≡ select.items ++ all_items selects
all_items_cons select selects =
    all_items_flat (select ∷ selects) ∙ ap (λ (l : List ItemRef). select.items ++ l) (sym (all_items_flat selects))

all_items_append : (xs ys : List Select) → all_items (xs ++ ys) ≡ all_items xs ++ all_items ys
all_items_append xs ys =
    all_items_flat (xs ++ ys) ∙ flat_map-append (λ (s : Select). s.items) xs ys
    ∙ ap (λ (l : List ItemRef). l ++ flat_map (λ (s : Select). s.items) ys) (sym (all_items_flat xs))
    ∙ ap (λ (l : List ItemRef). all_items xs ++ l) (sym (all_items_flat ys))

-- the items of the select at i come next
pub items_left : (selects : List Select) (i : ℕ) (select : Select) → i < length selects → select ≡ get_or selects i select
    → all_items (drop i selects) ≡ select.items ++ all_items (drop (i + 1) selects)
items_left selects i select inside is =
    ap all_items (drop_more selects i select inside ∙ ap (λ (s : Select). s ∷ drop (i + 1) selects) (sym is))
    ∙ all_items_cons select (drop (i + 1) selects)

pub items_done : (selects : List Select) (i : ℕ) (select : Select) → i < length selects → select ≡ get_or selects i select
    → all_items (take (i + 1) selects) ≡ all_items (take i selects) ++ select.items
items_done selects i select inside is =
    ap all_items (take_more selects i select inside ∙ ap (λ (s : Select). take i selects ++ s ∷ []) (sym is))
    ∙ all_items_append (take i selects) (select ∷ [])

-- ---- the first item whose table no entry names

unknown_append : (named : List (List ℕ × List ℕ)) (xs ys : List ItemRef)
    → unknown_table named (xs ++ ys) ≡ option_or (unknown_table named xs) (unknown_table named ys)
unknown_append named [] ys = refl
unknown_append named (x ∷ xs) ys = by (bytes_of named x.table) (unknown_append named xs ys)
  where
    by : (o : Option (List ℕ)) → unknown_table named (xs ++ ys) ≡ option_or (unknown_table named xs) (unknown_table named ys)
        → unknown_with o x.at (unknown_table named (xs ++ ys)) ≡ option_or (unknown_with o x.at (unknown_table named xs)) (unknown_table named ys)
    by None later = refl
    by (Some file) later = later

-- a refusal of one stage that is one of another
pub pure_as : {A B : Type 0} (G : Result A Reason → Type 0) (H : Result B Reason → Type 0) (e : Reason) → (G (Err e) → H (Err e)) → Pure G (Err e) → Pure H (Err e)
pure_as G H reason.NoMemory gives h = tt
pure_as G H (reason.NoFile name) gives h = h
pure_as G H (reason.ReadFault name) gives h = h
pure_as G H (reason.TooLarge name) gives h = h
pure_as G H reason.WriteFault gives h = h
pure_as G H reason.Usage gives h = h
pure_as G H e gives h = gives h

none_unless : {A : Type 0} (o : Option Reason) (a b : A) → Ok a ≡ unless o b → o ≡ None
none_unless None a b e = refl
none_unless (Some x) a b e = cc

some_unless : {A : Type 0} (o : Option Reason) (e : Reason) (b : A) → Err e ≡ unless o b → o ≡ Some e
some_unless None e b h = cc
some_unless (Some x) e b h = let same : e ≡ x = cc in ap Some (sym same)

-- each item has a table that an entry names
pub known_none : {A : Type 0} (named : List (List ℕ × List ℕ)) (items : List ItemRef) (a : A) → Is (unless (unknown_table named items) a) (Ok a)
    → unknown_table named items ≡ None
known_none named items a known = none_unless (unknown_table named items) a a known

-- the items of the selects up to i have tables that entries name, and these are their uses
pub record HasAllUses (named : List (List ℕ × List ℕ)) (selects : List Select) (i : ℕ) (firsts : List (List ℕ × List ℕ)) (numbers : List ℕ) : Type 0 where
  pub known : unknown_table named (all_items (drop i selects)) ≡ unknown_table named (all_items selects)
  pub uses : HasUses named (all_items (take i selects)) firsts numbers

module _ (named : List (List ℕ × List ℕ)) (selects : List Select) (i : ℕ) (select : Select) (inside : i < length selects) (is : select ≡ get_or selects i select)
    (known : unknown_table named (all_items (drop i selects)) ≡ unknown_table named (all_items selects)) where
  here_unknown : option_or (unknown_table named select.items) (unknown_table named (all_items (drop (i + 1) selects))) ≡ unknown_table named (all_items selects)
  here_unknown =
      sym (ap (unknown_table named) (items_left selects i select inside is) ∙ unknown_append named select.items (all_items (drop (i + 1) selects)))
      ∙ known

  -- the items of the select at i have tables that entries name
  pub known_on : Ok select.items ≡ unless (unknown_table named select.items) select.items
      → unknown_table named (all_items (drop (i + 1) selects)) ≡ unknown_table named (all_items selects)
  known_on here = sym (ap (λ (o : Option Reason). option_or o (unknown_table named (all_items (drop (i + 1) selects)))) (none_unless _ _ _ here)) ∙ here_unknown

  -- one of them has not
  pub all_refused : {A : Type 0} (a : A) (e : Reason) → Pure (Is (unless (unknown_table named select.items) select.items)) (Err e)
      → Pure (Is (unless (unknown_table named (all_items selects)) a)) (Err e)
  all_refused a e =
      pure_as (Is (unless (unknown_table named select.items) select.items)) (Is (unless (unknown_table named (all_items selects)) a)) e
      (λ h. let here = some_unless _ e select.items h in
      let all : unknown_table named (all_items selects) ≡ Some e =
      sym here_unknown ∙ ap (λ (o : Option Reason). option_or o (unknown_table named (all_items (drop (i + 1) selects)))) here in
      sym (ap (λ (o : Option Reason). unless o a) all))

-- all selects were gone over
pub all_known : (named : List (List ℕ × List ℕ)) (selects : List Select) (i : ℕ) → length selects ≤ i
    → unknown_table named (all_items (drop i selects)) ≡ unknown_table named (all_items selects)
    → {A : Type 0} (a : A) → Is (unless (unknown_table named (all_items selects)) a) (Ok a)
all_known named selects i end known a =
    let none : unknown_table named (all_items selects) ≡ None =
    sym known ∙ ap (λ (l : List Select). unknown_table named (all_items l)) (drop_all i selects end) in
    sym (ap (λ (o : Option Reason). unless o a) none)

module _ (named : List (List ℕ × List ℕ)) (selects : List Select) (i : ℕ) (select : Select) (firsts : List (List ℕ × List ℕ)) (numbers : List ℕ)
    (inside : i < length selects) (is : select ≡ get_or selects i select) (so_far : HasAllUses named selects i firsts numbers) where
  -- there is room for what the items of the select at i use
  pub all_room : length (all_items selects) ≤ 16 → length firsts + length select.items ≤ 16
  all_room limit =
      let few = few_uses named (all_items (take i selects)) firsts numbers so_far.uses in
      let whole : length (all_items selects) ≡ length (all_items (take i selects) ++ all_items (drop i selects)) =
      ap (λ (l : List Select). length (all_items l)) (sym (take-append-drop i selects)) ∙ ap length (all_items_append (take i selects) (drop i selects)) in
      let parts = length-append (all_items (take i selects)) (all_items (drop i selects)) in
      let left : length (all_items (drop i selects)) ≡ length (select.items ++ all_items (drop (i + 1) selects)) = ap length (items_left selects i select inside is) in
      let own = length-append select.items (all_items (drop (i + 1) selects)) in
      omega (arith, few, whole, parts, left, own, limit)

  -- the items of the select at i have such tables too
  pub all_more : (now : List (List ℕ × List ℕ)) (counted : List ℕ) → Ok select.items ≡ unless (unknown_table named select.items) select.items
      → ((earlier : List ItemRef) → HasUses named earlier firsts numbers → HasUses named (earlier ++ select.items) now counted)
      → HasAllUses named selects (i + 1) now counted
  all_more now counted known uses =
      let P : List ItemRef → Type 0 = λ l. HasUses named l now counted in
      record {
        known = known_on named selects i select inside is so_far.known known;
        uses = subst P (sym (items_done selects i select inside is)) (uses (all_items (take i selects)) so_far.uses);
      }

pub all_used : (named : List (List ℕ × List ℕ)) (selects : List Select) (i : ℕ) (firsts : List (List ℕ × List ℕ)) (numbers : List ℕ) → length selects ≤ i
    → HasAllUses named selects i firsts numbers → HasUses named (all_items selects) firsts numbers
all_used named selects i firsts numbers end h =
    let P : List Select → Type 0 = λ l. HasUses named (all_items l) firsts numbers in subst P (take_all i selects end) h.uses
