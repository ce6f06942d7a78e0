-- Where references have no fault, what an entry stands for fits each use of it.
use Rattle.std.proofs.Common.{◌≡◌, ℕ, zero, suc, ◌+◌, ◌-◌, List, [], ◌∷◌, ◌++◌, length, slice_get, Bool, true, false, nat_eq, cond, refl, sym, ◌∙◌, ap, subst, arith, Option, Some, None}
use Rattle.std.specs.Prelude.{flat_map}
use Rattle.std.specs.List.{list_all}
use Rattle.std.proofs.lemmas.Bool.{and_parts, eq-eqb}
use Rattle.class_pool.specs.{declared.pool.Entry.Entry, Pool.entry_of}
use Rattle.code_decode.specs.declared.instructions.RawOp.{RawOp}
use Rattle.class_reader.specs.declared.parts.{ClassParts.ClassParts, MemberPart.MemberPart, CodePart.CodePart, RawHandler.RawHandler}
use Rattle.code_forms.specs.{declared.references.Use.Use, declared.references.Target.Target, Uses.use_of, Uses.fits, Operands.index_in}
use Rattle.code_forms.specs.declared.references.Use.TheVariants as used
use Rattle.class_link.specs.References.{LinkEnvironment, target_of, missing_for, op_use, handler_use, code_uses, uses}
use Rattle.class_link.specs.Faults.{indices, uses_at, all_fit, target_fault, entry_fault, references_fault, all_references_fault}
use Rattle.class_link.proofs.{Blocks.left_place, Blocks.right_place, Pools.none_both, Pools.first_none}
use Rattle.class_link.proofs.ClassKinds.{index_listed, not_missing, not_wrong}

-- ---- what stands in a list

pub record Has {X : Type 0} (xs : List X) (x : X) : Type 0 where
  pub place : ℕ
  pub there : slice_get xs place ≡ Some x

has_left : {X : Type 0} (xs ys : List X) (x : X) → Has xs x → Has (xs ++ ys) x
has_left xs ys x h = record { place = h.place; there = left_place xs ys h.place x h.there }

has_right : {X : Type 0} (xs ys : List X) (x : X) → Has ys x → Has (xs ++ ys) x
has_right xs ys x h = record { place = length xs + h.place; there = right_place xs ys h.place ∙ h.there }

has_flat : {A X : Type 0} (f : A → List X) (xs : List A) (a : A) (x : X) → (i : ℕ) → slice_get xs i ≡ Some a → Has (f a) x → Has (flat_map f xs) x
has_flat f [] a x i e h = absurd (cc)
has_flat f (b ∷ xs) a x zero e h = let q : a ≡ b = cc in has_left (f b) (flat_map f xs) x (subst (λ c. Has (f c) x) q h)
has_flat f (b ∷ xs) a x (suc i) e h = has_right (f b) (flat_map f xs) x (has_flat f xs a x i e h)

all_has : {X : Type 0} (test : X → Bool) (xs : List X) (x : X) (i : ℕ) → list_all test xs ≡ true → slice_get xs i ≡ Some x → test x ≡ true
all_has test [] x i h e = absurd (cc)
all_has test (y ∷ xs) x zero h e = let q : y ≡ x = cc in subst (λ z. test z ≡ true) q (and_parts (test y) (list_all test xs) h).0
all_has test (y ∷ xs) x (suc i) h e = all_has test xs x i (and_parts (test y) (list_all test xs) h).1 e

-- ---- uses

-- a use of an entry is one of the entry's uses
used_at : (i : ℕ) (u : Use) (xs : List (ℕ × Use)) (k : ℕ) → slice_get xs k ≡ Some (i, u) → Has (uses_at i xs) u
used_at i u [] k e = absurd (cc)
used_at i u (x ∷ xs) zero e =
    let q : x ≡ (i, u) = cc in
    let n : nat_eq x.0 i ≡ true = eq-eqb x.0 i (ap (λ (z : ℕ × Use). z.0) q) in
    let v : x.1 ≡ u = ap (λ (z : ℕ × Use). z.1) q in
    rw n (record { place = 0; there = ap (λ (w : Use). Some w) v })
used_at i u (x ∷ xs) (suc k) e = kept (nat_eq x.0 i) (used_at i u xs k e)
  where
    kept : (b : Bool) → Has (uses_at i xs) u → Has (cond b (x.1 ∷ uses_at i xs) (uses_at i xs)) u
    kept true h = record { place = suc h.place; there = h.there }
    kept false h = h

-- an entry that is used stands for something that fits the use
pub record Fitting (s : LinkEnvironment) (n : ℕ) (c : ClassParts) (i : ℕ) (u : Use) : Type 0 where
  pub target : Target
  pub is : target_of s c.pool (entry_of c.pool i) ≡ Some target
  pub fits : fits s.program n (entry_of c.pool i) target u ≡ true

fitting : (s : LinkEnvironment) (n : ℕ) (c : ClassParts) (i : ℕ) (us : List Use) (u : Use) (k : ℕ) → slice_get us k ≡ Some u → (o : Option Target) → target_of s c.pool (entry_of c.pool i) ≡ o → target_fault s n c i us o ≡ None → Fitting s n c i u
fitting s n c i us u k e None h g = absurd (cc)
fitting s n c i us u k e (Some t) h g = record { target = t; is = h; fits = all_has (fits s.program n (entry_of c.pool i) t) us u k (not_wrong (all_fit s.program n (entry_of c.pool i) t us) c i g) e }

entry_fits : (s : LinkEnvironment) (n : ℕ) (c : ClassParts) (i : ℕ) (us : List Use) (u : Use) (k : ℕ) → slice_get us k ≡ Some u → entry_fault s n c i us ≡ None → Fitting s n c i u
unfolding entry_fault
entry_fits s n c i [] u k e h = absurd (cc)
entry_fits s n c i (v ∷ us) u k e h = fitting s n c i (v ∷ us) u k e (target_of s c.pool (entry_of c.pool i)) refl (not_missing c (missing_for s.names c.pool (entry_of c.pool i)) (target_fault s n c i (v ∷ us) (target_of s c.pool (entry_of c.pool i))) h).1

-- each use of an entry that is there fits
pub use_fits : (s : LinkEnvironment) (n : ℕ) (c : ClassParts) (i : ℕ) (u : Use) (e : Entry) → references_fault s n c ≡ None → Has (uses c) (i, u) → entry_of c.pool i ≡ Some e → Fitting s n c i u
unfolding references_fault
use_fits s n c i u e h w g =
    let a = used_at i u (uses c) w.place w.there in
    entry_fits s n c i (uses_at i (uses c)) u a.place a.there (first_none (λ j. entry_fault s n c j (uses_at j (uses c))) (indices c) (i - 1) i h (index_listed c i e g))

-- ---- the uses of a class

pub op_used : (c : ClassParts) (k j : ℕ) (m : MemberPart) (code : CodePart) (o : RawOp) (u : Use) → slice_get c.methods k ≡ Some m → m.code ≡ Some code → slice_get code.code.ops j ≡ Some o → use_of o.opcode ≡ Some u → Has (uses c) (index_in o, u)
unfolding uses
op_used c k j m code o u h g e n =
    let one : Has (op_use o) (index_in o, u) = rw (n, op_use) (record { place = 0; there = refl }) in
    let all : Has (code_uses (Some code)) (index_in o, u) = has_left (flat_map op_use code.code.ops) (flat_map handler_use code.handlers) (index_in o, u) (has_flat op_use code.code.ops o (index_in o, u) j e one) in
    has_flat (λ (x : MemberPart). code_uses x.code) c.methods m (index_in o, u) k h (subst (λ x. Has (code_uses x) (index_in o, u)) (sym g) all)

pub handler_used : (c : ClassParts) (k j : ℕ) (m : MemberPart) (code : CodePart) (x : RawHandler) → slice_get c.methods k ≡ Some m → m.code ≡ Some code → slice_get code.handlers j ≡ Some x → nat_eq x.catch_class 0 ≡ false → Has (uses c) (x.catch_class, used.Caught)
unfolding uses
handler_used c k j m code x h g e n =
    let one : Has (handler_use x) (x.catch_class, used.Caught) = rw (n, handler_use) (record { place = 0; there = refl }) in
    let all : Has (code_uses (Some code)) (x.catch_class, used.Caught) = has_right (flat_map op_use code.code.ops) (flat_map handler_use code.handlers) (x.catch_class, used.Caught) (has_flat handler_use code.handlers x (x.catch_class, used.Caught) j e one) in
    has_flat (λ (y : MemberPart). code_uses y.code) c.methods m (x.catch_class, used.Caught) k h (subst (λ y. Has (code_uses y) (x.catch_class, used.Caught)) (sym g) all)

-- no class has a fault
pub no_fault : (s : LinkEnvironment) (n : ℕ) (cs : List ClassParts) (i : ℕ) (c : ClassParts) → all_references_fault s n cs ≡ None → slice_get cs i ≡ Some c → references_fault s (n + i) c ≡ None
no_fault s n [] i c h e = absurd (cc)
no_fault s n (d ∷ cs) zero c h e = let q : d ≡ c = cc in let z : n + 0 ≡ n = omega arith in rw (z, ← q) (none_both (references_fault s n d) (all_references_fault s (n + 1) cs) h).0
no_fault s n (d ∷ cs) (suc i) c h e = let z : n + suc i ≡ (n + 1) + i = omega arith in rw z (no_fault s (n + 1) cs i c (none_both (references_fault s n d) (all_references_fault s (n + 1) cs) h).1 e)
