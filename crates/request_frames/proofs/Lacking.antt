-- Texts that do not begin with what is looked for.
use Rattle.std.proofs.Common.{◌≡◌, ◌≤◌, ℕ, List, [], ◌++◌, length, Option, Some, None, IfSome, sym, ap, subst, ◌∙◌, append_assoc, refl, arith}
use Rattle.std.specs.Io.KnownBytes.{Consumes, prepend_known}
use Rattle.std.proofs.KnownBytes.{Consumes-trans, Consumes-whole}
use Rattle.outer_io.proofs.Counting.{Rose-after}
use Rattle.request_frames.specs.Frames.{HasFrame, IsFrame}
use Rattle.request_frames.specs.Reading.{BrokeOff, GoesOn, LacksBy, Source, left}
use Rattle.request_frames.specs.Requests.{HasRequest}
use Rattle.request_frames.specs.declared.fault.RequestFault.{RequestFault}
use Rattle.request_frames.specs.declared.fault.RequestFault.TheVariants.{Bad, Failed}
use Rattle.request_frames.proofs.Heads.{one_frame}

-- a reader that holds nothing
nothing_held : (rest : Option (List ℕ)) → prepend_known [] rest ≡ rest
nothing_held None = refl
nothing_held (Some xs) = refl

-- what broke off had fewer bytes
pub broke_lacks : (count : ℕ) (old new : Source) (fault : RequestFault) → BrokeOff count old new fault
    → LacksBy (λ text. count ≤ length text) old new fault
broke_lacks count old new Bad b = Consumes-whole (left old) (left new) b.part (λ text. count ≤ length text → ⊥) b.took b.cause (λ long. absurd (omega (arith, long, b.fewer)))
broke_lacks count old new Failed b = record {
  part = b.part;
  took = subst (λ r. Consumes (left old) r b.part) (ap (λ h. prepend_known h new.rest) b.none ∙ nothing_held new.rest) b.took;
  lacks = λ long. absurd (omega (arith, long, b.fewer));
  cause = b.cause;
}

-- a text that lacks something after its first part
text_lacks : (P Q : List ℕ → Type 0) (a b : Option (List ℕ)) (part : List ℕ) → Consumes a b part → ((more : List ℕ) → P (part ++ more) → Q more)
    → IfSome b (λ text. Q text → ⊥) → IfSome a (λ text. P text → ⊥)
text_lacks P Q None b part took has lacks = tt
text_lacks P Q (Some x) None part took has lacks = absurd took
text_lacks P Q (Some x) (Some y) part took has lacks = λ p. lacks (has y (subst P took p))

-- what lacks something after a part that was taken, lacks the whole
pub lacks_after : (P Q : List ℕ → Type 0) (a b c : Source) (part : List ℕ) → GoesOn a b → Consumes (left a) (left b) part
    → ((more : List ℕ) → P (part ++ more) → Q more) → (fault : RequestFault) → LacksBy Q b c fault → LacksBy P a c fault
lacks_after P Q a b c part on took has Bad lacks = text_lacks P Q (left a) (left b) part took has lacks
lacks_after P Q a b c part on took has Failed lacks = record {
  part = part ++ lacks.part;
  took = Consumes-trans (left a) (left b) c.rest part lacks.part took lacks.took;
  lacks = λ p. lacks.lacks (has lacks.part p);
  cause = Rose-after _ _ _ on.faults lacks.cause;
}

-- bytes that begin nothing that is looked for
pub text_begins : (P : List ℕ → Type 0) (a b : Option (List ℕ)) (part : List ℕ) → Consumes a b part → ((more : List ℕ) → P (part ++ more) → ⊥)
    → IfSome a (λ text. P text → ⊥)
text_begins P None b part took lacks = tt
text_begins P (Some x) None part took lacks = absurd took
text_begins P (Some x) (Some y) part took lacks = λ p. lacks y (subst P took p)

-- # A request

request_parts : (text : List ℕ) (r : HasRequest text)
    → text ≡ r.is_request.words ++ (r.is_request.query ++ (r.is_request.side ++ r.rest))
request_parts text r =
    let is = r.is_request in
    r.parts ∙ ap (λ l. l ++ r.rest) is.parts ∙ append_assoc is.words (is.query ++ is.side) r.rest
    ∙ ap (λ l. is.words ++ l) (append_assoc is.query is.side r.rest)

-- it begins with a frame
pub first_frame : (text : List ℕ) → HasRequest text → HasFrame text
first_frame text r = record {
  front = r.is_request.words;
  bytes = r.request.words;
  rest = r.is_request.query ++ (r.is_request.side ++ r.rest);
  is_frame = r.is_request.words_frame;
  parts = request_parts text r;
}

-- after its first frame is one
pub second_frame : (words bytes more : List ℕ) → IsFrame words bytes → HasRequest (words ++ more) → HasFrame more
second_frame words bytes more is r = record {
  front = r.is_request.query;
  bytes = r.request.query;
  rest = r.is_request.side ++ r.rest;
  is_frame = r.is_request.query_frame;
  parts = one_frame words r.is_request.words bytes r.request.words more _ is r.is_request.words_frame (request_parts _ r);
}

-- and after its second
pub third_frame : (words query bytes others more : List ℕ) → IsFrame words bytes → IsFrame query others → HasRequest ((words ++ query) ++ more) → HasFrame more
third_frame words query bytes others more first second r =
    let after : query ++ more ≡ r.is_request.query ++ (r.is_request.side ++ r.rest) =
    one_frame words r.is_request.words bytes r.request.words (query ++ more) _ first r.is_request.words_frame (sym (append_assoc words query more) ∙ request_parts _ r) in
    record {
      front = r.is_request.side;
      bytes = r.request.side;
      rest = r.rest;
      is_frame = r.is_request.side_frame;
      parts = one_frame query r.is_request.query others r.request.query more _ second r.is_request.query_frame after;
    }
