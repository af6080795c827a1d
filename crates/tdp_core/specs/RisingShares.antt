-- The bound on the steps of one answer never falls.
-- A proof, and not a definition: ghost fields of types are made with it, so it stands here.
use Rattle.std.proofs.Common.{ℕ, ◌+◌, ◌*◌, ◌≤◌, Bool, true, false, cond, nat_lt, List, get_or, arith}
use Rattle.rank_key.specs.Bits.{bit_length}
use Rattle.rank_key.proofs.BitLemmas.{bit_length_rises}
use Rattle.tdp_core.specs.Shares.{share_of}

pub at_most_itself : (n : ℕ) → n ≤ n
at_most_itself n = omega arith

times_more : (m a b : ℕ) → a ≤ b → m * a ≤ m * b
times_more m a b h = grind arith

cond_more : (b : Bool) (x y : ℕ) → x ≤ y → cond b x 0 ≤ cond b y 0
cond_more true x y h = h
cond_more false x y h = omega arith

pub shares_rise : (s : List ℕ) (c d : ℕ) → c ≤ d → share_of s c ≤ share_of s d
shares_rise s c d h =
    let m : ℕ = get_or s 0 0 in
    let n : ℕ = get_or s 1 0 in
    let more : (c + 1) * m ≤ (d + 1) * m = grind arith in
    let digits : bit_length (n + (c + 1) * m)
    ≤ bit_length (n + (d + 1) * m) = bit_length_rises _ _ (omega arith) in
    cond_more (nat_lt 0 (get_or s 2 0)) _ _
    (let p : m * (1 + bit_length (n + (c + 1) * m))
    ≤ m * (1 + bit_length (n + (d + 1) * m)) = times_more m _ _ (omega arith) in omega arith)
