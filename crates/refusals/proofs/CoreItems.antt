-- The items of a core, sent one after another.
use Rattle.std.proofs.Common.{◌≡◌, ◌+◌, ◌<◌, ◌≤◌, ℕ, Bool, true, false, cond, if◌then◌else◌, List, [], ◌∷◌, ◌++◌, Option, Ok, Err, map, filter, flat_map, take, get_or, codes, decimal, refl, sym, ap, ◌∙◌, subst, append-nil, arith}
use Rattle.std.specs.Io.KnownBytes.{Appends}
use Rattle.std.specs.List.{range_with_len}
use Rattle.std.proofs.KnownBytes.{Appends-trans}
use Rattle.std.proofs.lemmas.Grind.{flat_map-append}
use Rattle.std.proofs.lemmas.List.FromFn.{get_or-range_with_len, length-range_with_len, map-range_with_len_more, take-map-range_with_len}
use Rattle.hyper_graph.specs.Graph.{is_in}
use Rattle.hyper_graph.specs.Items.{items_below}
use Rattle.refusals.specs.Reason.{spaced}
use Rattle.refusals.specs.CycleText.{item_text}
use Rattle.outer_io.specs.SinkText.{Sent}
use Rattle.outer_io.specs.SinkState.{SinkState}
use Rattle.refusals.proofs.Pieces.{Sent-cut}

-- what one place adds, whether it is kept or left out
place_text : (b : Bool) (place : ℕ) (places : List ℕ)
    → (if b then codes " " ++ decimal (place + 1) else []) ++ spaced (map (λ p. p + 1) places) ≡ spaced (map (λ p. p + 1) (cond b (place ∷ places) places))
place_text true place places = refl
place_text false place places = refl

kept_text : (core : ℕ) (places : List ℕ) → flat_map (item_text core) places ≡ spaced (map (λ p. p + 1) (filter (is_in core) places))
kept_text core [] = refl
kept_text core (place ∷ places) =
    ap (λ l. item_text core place ++ l) (kept_text core places) ∙ place_text (is_in core place) place (filter (is_in core) places)

-- the texts of all places are the items with their spaces
core_text : (core n : ℕ) → flat_map (item_text core) (range_with_len 0 n) ≡ spaced (items_below core n)
unfolding items_below
core_text core n = kept_text core (range_with_len 0 n)

same_list : (xs : List ℕ) → map (λ x. x) xs ≡ xs
same_list [] = refl
same_list (x ∷ xs) = ap (λ l. x ∷ l) (same_list xs)

range_more : (n : ℕ) → range_with_len 0 (n + 1) ≡ range_with_len 0 n ++ n ∷ []
range_more n =
    sym (same_list (range_with_len 0 (n + 1))) ∙ map-range_with_len_more (λ x. x) 0 n n (omega arith) ∙ ap (λ l. l ++ n ∷ []) (same_list (range_with_len 0 n))

range_first : (n k : ℕ) → k ≤ n → take k (range_with_len 0 n) ≡ range_with_len 0 k
range_first n k few =
    ap (take k) (sym (same_list (range_with_len 0 n))) ∙ take-map-range_with_len (λ x. x) 0 n k few ∙ same_list (range_with_len 0 k)

-- one more place was sent
pub places_more : (core place : ℕ) (a b c : Option (List ℕ)) → Appends a b (flat_map (item_text core) (range_with_len 0 place)) → Appends b c (item_text core place)
    → Appends a c (flat_map (item_text core) (range_with_len 0 (place + 1)))
places_more core place a b c before here =
    subst (λ text. Appends a c text)
    (sym (ap (flat_map (item_text core)) (range_more place) ∙ flat_map-append (item_text core) (range_with_len 0 place) (place ∷ [])
    ∙ ap (λ l. flat_map (item_text core) (range_with_len 0 place) ++ l) (append-nil (item_text core place))))
    (Appends-trans a b c _ _ before here)

-- all places were sent
pub places_sent : {E : Type 0} (core place count : ℕ) (a b : SinkState) → place ≡ count
    → Appends a.written b.written (flat_map (item_text core) (range_with_len 0 place)) → a.faults ≤ b.faults
    → Sent {E = E} a b (spaced (items_below core count)) (Ok tt)
places_sent core place count a b all sent later =
    let whole : Appends a.written b.written (spaced (items_below core count)) = subst (λ text. Appends a.written b.written text) (core_text core place ∙ ap (λ p. spaced (items_below core p)) all) sent in
    record {
      whole = whole;
      prefix = (spaced (items_below core count), whole, ([], sym (append-nil (spaced (items_below core count)))));
      cause = tt;
      later = later;
    }

-- the text of one place was cut short
pub places_cut : {E : Type 0} (core place count : ℕ) (a b c : SinkState) (e : E) → place < count
    → Appends a.written b.written (flat_map (item_text core) (range_with_len 0 place)) → a.faults ≤ b.faults → Sent b c (item_text core place) (Err e)
    → Sent a c (spaced (items_below core count)) (Err e)
places_cut core place count a b c e inside before earlier cut =
    let first : take place (range_with_len 0 count) ≡ range_with_len 0 place = range_first count place (omega arith) in
    let here : get_or (range_with_len 0 count) place 0 ≡ place = get_or-range_with_len 0 count place 0 inside ∙ omega arith in
    subst (λ text. Sent a c text (Err e)) (core_text core count)
    (Sent-cut (item_text core) a b c (range_with_len 0 count) place 0 e (subst (λ l. Appends a.written b.written (flat_map (item_text core) l)) (sym first) before) earlier
    (omega (arith, length-range_with_len 0 count, inside)) (subst (λ p. Sent b c (item_text core p) (Err e)) (sym here) cut))
