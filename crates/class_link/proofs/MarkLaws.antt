-- The marks of entries say of each how it is used.
use Rattle.std.proofs.Common.{◌≡◌, ℕ, zero, suc, ◌+◌, ◌-◌, ◌<◌, ◌≤◌, List, [], ◌∷◌, length, replicate, Bool, true, false, ◌&&◌, cond, nat_eq, slice_set, slice_index_or, refl, sym, ◌∙◌, ap, subst, arith, Option, Some, None, Ok}
use Rattle.std.specs.List.{list_all, range_with_len}
use Rattle.std.proofs.{Math.Bool.and-true, Math.Bool.and_assoc, lemmas.Bool.eqb-true, lemmas.Bool.eq-eqb, lemmas.Bool.ne_eqb}
use Rattle.std.proofs.lemmas.List.{get_or-set_same, get_or-set_other, get_or-replicate, length-set, length-replicate}
use Rattle.class_pool.specs.{declared.pool.Entry.Entry, Pool.entry_of}
use Rattle.class_reader.specs.declared.parts.ClassParts.{ClassParts}
use Rattle.jvm_model.specs.declared.program.Program.{Program}
use Rattle.class_link.specs.{declared.fault.LinkFault.LinkFault, References.LinkEnvironment, References.target_of, References.missing_for, References.uses}
use Rattle.code_forms.specs.declared.references.{Use.Use, Target.Target}
use Rattle.class_link.specs.{Bodies.targets, Bodies.target_in, Answers.Fails, Link.unless}
use Rattle.class_link.specs.Faults.{entry_fault, first_some, indices, missing_or, references_fault, target_fault, uses_at}
use Rattle.class_link.proofs.{FaultLaws.next_first, FaultLaws.fails_first, BodyLaws.target_in-targets}
use Rattle.class_link.specs.Marks.{all_noted, fits_target, mark_at, mark_fault, mark_of, marked_with, noted, target_fault_by}

-- a mark after several uses
abbrev after : (Use → Bool) → Option Bool → List Use → Option Bool
after f o [] = o
after f o (u ∷ us) = after f (marked_with o (f u)) us

after_some : (f : Use → Bool) (b : Bool) (us : List Use) → after f (Some b) us ≡ Some (b && list_all f us)
after_some f b [] = ap (λ a. Some a) (sym (and-true b))
after_some f b (u ∷ us) = after_some f (b && f u) us ∙ ap (λ a. Some a) (and_assoc b (f u) (list_all f us))

after_none : (f : Use → Bool) (us : List Use) → after f None us ≡ mark_of f us
after_none f [] = refl
after_none f (u ∷ us) = after_some f (f u) us

noted_length : (ms : List (Option Bool)) (i : ℕ) (b t : Bool) → length (cond t ms (slice_set ms (i - 1) (marked_with (slice_index_or ms (i - 1) None) b))) ≡ length ms
noted_length ms i b true = refl
noted_length ms i b false = length-set ms (i - 1) (marked_with (slice_index_or ms (i - 1) None) b)

noted_here : (ms : List (Option Bool)) (i : ℕ) (b : Bool) → 0 < i → i ≤ length ms → mark_at (noted ms i b) i ≡ marked_with (mark_at ms i) b
noted_here ms i b h g =
    let v = marked_with (slice_index_or ms (i - 1) None) b in
    let at : nat_eq i 0 ≡ false = ne_eqb i 0 (λ e. absurd (omega arith)) in
    ap (λ (t : Bool). slice_index_or (cond t ms (slice_set ms (i - 1) v)) (i - 1) None) at ∙ get_or-set_same ms (i - 1) v None (omega arith)

noted_other : (ms : List (Option Bool)) (i j : ℕ) (b : Bool) → 0 < i → nat_eq j i ≡ false → mark_at (noted ms j b) i ≡ mark_at ms i
noted_other ms i zero b h e = refl
noted_other ms i (suc j) b h e =
    let v = marked_with (slice_index_or ms (suc j - 1) None) b in
    let at : nat_eq (suc j) 0 ≡ false = ne_eqb (suc j) 0 (λ q. absurd (omega arith)) in
    let apart : i - 1 ≡ suc j - 1 → ⊥ = λ q. (let same : suc j ≡ i = omega arith in let yes : nat_eq (suc j) i ≡ true = eq-eqb (suc j) i same in absurd (cc)) in
    ap (λ (t : Bool). slice_index_or (cond t ms (slice_set ms (suc j - 1) v)) (i - 1) None) at ∙ get_or-set_other ms (suc j - 1) (i - 1) v None apart

module _ (p : Program) (n : ℕ) (slots : List (Option Entry)) (ts : List (Option Target)) where
  mark_step : (i j : ℕ) (u : Use) (us : List (ℕ × Use)) (ms : List (Option Bool)) (t : Bool) → 0 < i → i ≤ length ms → nat_eq j i ≡ t
      → after (λ w. fits_target p n (entry_of slots i) (target_in ts i) w) (mark_at (noted ms j (fits_target p n (entry_of slots j) (target_in ts j) u)) i) (uses_at i us)
      ≡ after (λ w. fits_target p n (entry_of slots i) (target_in ts i) w) (mark_at ms i) (cond t (u ∷ uses_at i us) (uses_at i us))
  mark_step i j u us ms true h g e =
      let here : mark_at (noted ms j (fits_target p n (entry_of slots j) (target_in ts j) u)) i ≡ marked_with (mark_at ms i) (fits_target p n (entry_of slots i) (target_in ts i) u) =
      subst (λ (k : ℕ). mark_at (noted ms k (fits_target p n (entry_of slots k) (target_in ts k) u)) i ≡ marked_with (mark_at ms i) (fits_target p n (entry_of slots i) (target_in ts i) u)) (sym (eqb-true j i e)) (noted_here ms i (fits_target p n (entry_of slots i) (target_in ts i) u) h g) in
      ap (λ o. after (λ w. fits_target p n (entry_of slots i) (target_in ts i) w) o (uses_at i us)) here
  mark_step i j u us ms false h g e = ap (λ o. after (λ w. fits_target p n (entry_of slots i) (target_in ts i) w) o (uses_at i us)) (noted_other ms i j (fits_target p n (entry_of slots j) (target_in ts j) u) h e)

  marks_get : (i : ℕ) (us : List (ℕ × Use)) (ms : List (Option Bool)) → 0 < i → i ≤ length ms → mark_at (all_noted p n slots ts ms us) i ≡ after (λ w. fits_target p n (entry_of slots i) (target_in ts i) w) (mark_at ms i) (uses_at i us)
  marks_get i [] ms h g = refl
  marks_get i (x ∷ us) ms h g =
      let b = fits_target p n (entry_of slots x.0) (target_in ts x.0) x.1 in
      let long : length (noted ms x.0 b) ≡ length ms = noted_length ms x.0 b (nat_eq x.0 0) in
      marks_get i us (noted ms x.0 b) h (omega arith) ∙ mark_step i x.0 x.1 us ms (nat_eq x.0 i) h g refl

  -- the marks of a pool say how its entries are used
  marks_say : (i k : ℕ) (us : List (ℕ × Use)) → 0 < i → i ≤ k → mark_at (all_noted p n slots ts (replicate k None) us) i ≡ mark_of (λ w. fits_target p n (entry_of slots i) (target_in ts i) w) (uses_at i us)
  marks_say i k us h g =
      let none : Option Bool = None in
      let long : length (replicate k none) ≡ k = length-replicate k none in
      marks_get i us (replicate k None) h (omega arith)
      ∙ ap (λ o. after (λ w. fits_target p n (entry_of slots i) (target_in ts i) w) o (uses_at i us)) (get_or-replicate k (i - 1) None None (omega arith))
      ∙ after_none (λ w. fits_target p n (entry_of slots i) (target_in ts i) w) (uses_at i us)

mark_cases : (s : LinkEnvironment) (n : ℕ) (c : ClassParts) (i : ℕ) (u : Use) (us : List Use) (t : Option Target)
    → target_fault_by c i (list_all (λ w. fits_target s.program n (entry_of c.pool i) t w) (u ∷ us)) t ≡ target_fault s n c i (u ∷ us) t
mark_cases s n c i u us None = refl
mark_cases s n c i u us (Some t) = refl

mark_is : (s : LinkEnvironment) (n : ℕ) (c : ClassParts) (i : ℕ) (us : List Use)
    → mark_fault s c i (target_of s c.pool (entry_of c.pool i)) (mark_of (λ w. fits_target s.program n (entry_of c.pool i) (target_of s c.pool (entry_of c.pool i)) w) us) ≡ entry_fault s n c i us
unfolding entry_fault
mark_is s n c i [] = refl
mark_is s n c i (u ∷ us) = ap (λ f. missing_or c (missing_for s.names c.pool (entry_of c.pool i)) f) (mark_cases s n c i u us (target_of s c.pool (entry_of c.pool i)))

first_same : (f g : ℕ → Option LinkFault) (k a : ℕ) → ((i : ℕ) → a ≤ i → i < a + k → f i ≡ g i) → first_some f (range_with_len a k) ≡ first_some g (range_with_len a k)
first_same f g zero a e = refl
first_same f g (suc k) a e =
    ap (λ o. elim o as (λ _. Option LinkFault) [ Some y ↦ Some y | None ↦ first_some f (range_with_len (a + 1) k) ]) (e a (omega arith) (omega arith))
    ∙ ap (λ r. elim (g a) as (λ _. Option LinkFault) [ Some y ↦ Some y | None ↦ r ]) (first_same f g k (a + 1) (λ i h l. e i (omega arith) (omega arith)))

index_same : (s : LinkEnvironment) (n : ℕ) (c : ClassParts) (i : ℕ) → 1 ≤ i → i < 1 + length c.pool
    → mark_fault s c i (target_in (targets s c.pool) i) (mark_at (all_noted s.program n c.pool (targets s c.pool) (replicate (length c.pool) None) (uses c)) i) ≡ entry_fault s n c i (uses_at i (uses c))
index_same s n c i h l =
    ap (λ m. mark_fault s c i (target_in (targets s c.pool) i) m) (marks_say s.program n c.pool (targets s c.pool) i (length c.pool) (uses c) (omega arith) (omega arith))
    ∙ ap (λ t. mark_fault s c i t (mark_of (λ w. fits_target s.program n (entry_of c.pool i) t w) (uses_at i (uses c)))) (target_in-targets s c.pool i)
    ∙ mark_is s n c i (uses_at i (uses c))

all_same : (s : LinkEnvironment) (n : ℕ) (c : ClassParts)
    → first_some (λ i. mark_fault s c i (target_in (targets s c.pool) i) (mark_at (all_noted s.program n c.pool (targets s c.pool) (replicate (length c.pool) None) (uses c)) i)) (indices c) ≡ references_fault s n c
unfolding references_fault
all_same s n c =
    first_same (λ i. mark_fault s c i (target_in (targets s c.pool) i) (mark_at (all_noted s.program n c.pool (targets s c.pool) (replicate (length c.pool) None) (uses c)) i)) (λ i. entry_fault s n c i (uses_at i (uses c))) (length c.pool) 1 (λ i h l. index_same s n c i h l)

-- the first fault of marked entries is that of the class's references
pub fault_all : (s : LinkEnvironment) (n : ℕ) (c : ClassParts) (slots : List (Option Entry)) (ts known : List (Option Target)) (ms : List (Option Bool)) → slots ≡ c.pool → ts ≡ targets s slots → known ≡ targets s slots
    → ms ≡ all_noted s.program n slots known (replicate (length slots) None) (uses c) → first_some (λ i. mark_fault s c i (target_in ts i) (mark_at ms i)) (indices c) ≡ references_fault s n c
fault_all s n c slots ts known ms e f g h =
    let marks : ms ≡ all_noted s.program n c.pool (targets s c.pool) (replicate (length c.pool) None) (uses c) =
    h ∙ ap (λ k. all_noted s.program n slots k (replicate (length slots) None) (uses c)) g ∙ ap (λ (y : List (Option Entry)). all_noted s.program n y (targets s y) (replicate (length y) None) (uses c)) e in
    let resolved : ts ≡ targets s c.pool = f ∙ ap (λ (y : List (Option Entry)). targets s y) e in
    ap (λ (t : List (Option Target)). first_some (λ i. mark_fault s c i (target_in t i) (mark_at ms i)) (indices c)) resolved
    ∙ ap (λ (m : List (Option Bool)). first_some (λ i. mark_fault s c i (target_in (targets s c.pool) i) (mark_at m i)) (indices c)) marks
    ∙ all_same s n c

-- an entry's answer, seen by its target and mark
module _ (s : LinkEnvironment) (c : ClassParts) (ts : List (Option Target)) (ms : List (Option Bool)) (i n : ℕ) (t : Option Target) (m : Option Bool) where
  pub marked_next : t ≡ target_in ts i → m ≡ mark_at ms i → i < n → unless (mark_fault s c i t m) ≡ Ok tt
      → first_some (λ j. mark_fault s c j (target_in ts j) (mark_at ms j)) (range_with_len i (n - i)) ≡ first_some (λ j. mark_fault s c j (target_in ts j) (mark_at ms j)) (range_with_len (i + 1) (n - (i + 1)))
  marked_next e f h u =
      let here : unless (mark_fault s c i (target_in ts i) (mark_at ms i)) ≡ Ok tt = ap (λ x. unless (mark_fault s c i x (mark_at ms i))) (sym e) ∙ ap (λ x. unless (mark_fault s c i t x)) (sym f) ∙ u in
      next_first (λ j. mark_fault s c j (target_in ts j) (mark_at ms j)) i n here h

  pub marked_fails : (e : LinkFault) → t ≡ target_in ts i → m ≡ mark_at ms i → i < n → Fails e (unless (mark_fault s c i t m)) → Fails e (unless (first_some (λ j. mark_fault s c j (target_in ts j) (mark_at ms j)) (range_with_len i (n - i))))
  marked_fails e f g h u =
      let here : Fails e (unless (mark_fault s c i (target_in ts i) (mark_at ms i))) = subst (λ (x : Option Target). Fails e (unless (mark_fault s c i x (mark_at ms i)))) f (subst (λ (x : Option Bool). Fails e (unless (mark_fault s c i t x))) g u) in
      fails_first (λ j. mark_fault s c j (target_in ts j) (mark_at ms j)) i n e h here
