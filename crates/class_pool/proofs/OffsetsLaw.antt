-- Pools at an offset: what is read is spelled so, and what is spelled so is read.
use Rattle.std.proofs.Common.{◌≡◌, ℕ, List, [], ◌++◌, length, drop, Option, Result, Ok, Err, IfOk, refl, sym, ap, subst, ◌∙◌, arith}
use Rattle.std.proofs.lemmas.List.{length-append, append-nil}
use Rattle.class_pool.specs.declared.{fault.Fault.Fault, pool.Entry.Entry, offsets.PoolFault.PoolFault}
use Rattle.class_pool.specs.declared.offsets.PoolFault.TheVariants.{Truncated, BadTag, BadIndex, BadUtf, BadDescriptor, NoMemory}
use Rattle.class_pool.specs.{Pool.pool_at, Grammar.IsBytes, PoolGrammar.PoolText}
use Rattle.class_pool.specs.Offsets.{place, by_offset, read_from, SpelledFrom, PoolGives}
use Rattle.class_pool.proofs.{Laws.IsBytes-drop, PoolLaw.reads_pool}

abbrev pub Slots : Type 0
Slots = List (Option Entry)

pub gives : (r read : Result (Slots × ℕ) PoolFault) → read ≡ r → PoolGives r read
gives (Ok x) read e = e
gives (Err NoMemory) read e = tt
gives (Err (Truncated at)) read e = e
gives (Err (BadTag at tag)) read e = e
gives (Err (BadIndex at)) read e = e
gives (Err (BadUtf at)) read e = e
gives (Err (BadDescriptor at)) read e = e

pub from_slice : (bytes start : List ℕ) (at : ℕ) (r : Result (Slots × List ℕ) Fault) → start ≡ drop at bytes → pool_at start ≡ r → read_from bytes at ≡ by_offset at (length start) r
unfolding read_from
from_slice bytes start at r is e = ap (λ (s : List ℕ). by_offset at (length s) (pool_at s)) (sym is) ∙ ap (by_offset at (length start)) e

abbrev done : Slots × ℕ → Result (Slots × ℕ) PoolFault
done x = Ok x

ok_is : (x y : Slots × ℕ) → done x ≡ done y → x ≡ y
ok_is x y e = cc

by_ok : (at total : ℕ) (r : Result (Slots × List ℕ) Fault) (x : Slots × ℕ) → by_offset at total r ≡ Ok x → (y : Slots × List ℕ) × (r ≡ Ok y) × (x.0 ≡ y.0) × (x.1 ≡ place at total (length y.1))
by_ok at total (Ok y) x e = let z : Slots × ℕ = (y.0, place at total (length y.1)) in let s : z ≡ x = ok_is z x e in (y, refl, ap (λ (z : Slots × ℕ). z.0) (sym s), ap (λ (z : Slots × ℕ). z.1) (sym s))
by_ok at total (Err f) x e = absurd cc

is_found : (bytes : List ℕ) (at : ℕ) (x : Slots × ℕ) → IsBytes bytes → read_from bytes at ≡ Ok x → SpelledFrom bytes at x.0 x.1
unfolding read_from
is_found bytes at x fits e =
    let y = by_ok at (length (drop at bytes)) (pool_at (drop at bytes)) x e in
    let t = reads_pool.takes (drop at bytes) y.0 (IsBytes-drop at bytes fits) y.1 in
    record { text = t.text; rest = y.0.1; parts = t.parts; spelled = subst (PoolText t.text) (sym y.2) t.spelled; ends = omega (arith, y.3, ap length t.parts, length-append t.text y.0.1) }

pub found : (bytes : List ℕ) (at : ℕ) (r : Result (Slots × ℕ) PoolFault) → IsBytes bytes → PoolGives r (read_from bytes at) → IfOk r (λ x. SpelledFrom bytes at x.0 x.1)
found bytes at (Ok x) fits e = is_found bytes at x fits e
found bytes at (Err f) fits e = tt

is_read : (bytes : List ℕ) (at : ℕ) (slots : Slots) (after : ℕ) → SpelledFrom bytes at slots after → read_from bytes at ≡ Ok (slots, after)
is_read bytes at slots after s =
    let e : pool_at (s.text ++ s.rest) ≡ Ok (slots, s.rest) = reads_pool.again s.text s.rest slots s.spelled in
    let ends : place at (length (s.text ++ s.rest)) (length s.rest) ≡ after = omega (arith, s.ends, length-append s.text s.rest) in
    from_slice bytes (s.text ++ s.rest) at (Ok (slots, s.rest)) (sym s.parts) e ∙ ap (λ n. Ok (slots, n)) ends

pub only : (bytes : List ℕ) (at : ℕ) (r : Result (Slots × ℕ) PoolFault) → PoolGives r (read_from bytes at) → (slots : Slots) (after : ℕ) → SpelledFrom bytes at slots after → PoolGives r (Ok (slots, after))
only bytes at r e slots after s = subst (PoolGives r) (is_read bytes at slots after s) e

-- a spelling by itself is read wholly
pub is_reread : (text : List ℕ) (slots : Slots) → PoolText text slots → read_from text 0 ≡ Ok (slots, length text)
is_reread text slots h = is_read text 0 slots (length text) (record { text = text; rest = []; parts = sym (append-nil text); spelled = h; ends = omega arith })
