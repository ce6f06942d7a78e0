-- The tests of a cone are tests of the program, and few.
use Rattle.std.proofs.Common.{◌≡◌, ℕ, zero, suc, ◌+◌, ◌<◌, ◌≤◌, List, [], ◌∷◌, ◌++◌, length, take, drop, get_or, filter, All, Bool, true, not, nat_eq, Some, refl, sym, ◌∙◌, ap, subst, inl, inr, arith}
use Rattle.std.proofs.{Math.Seq.split_at, lemmas.List.Elements.All-filter, lemmas.List.Filters.length-filter_both}
use Rattle.std.proofs.lemmas.{Bool.cases_Bool, Bool.ne_eqb, List.get_or_read}
use Rattle.jvm_model.specs.{declared.program.Program.Program, Suite.last_outcome}
use Rattle.order_law.specs.{declared.edges.Edge.Edge, Conflicts.Member, Pairing.no_more, Pairing.one_more, Plan.Ascending}
use Rattle.order_law.proofs.Posts.{below_mid}
use Rattle.type_frames.specs.Typing.{IsTyped}
use Rattle.dep_graph.specs.Graphs.{GoUp}
use Rattle.test_run.specs.{declared.run_fault.RunFault.RunFault, Running.IsTest, Running.Posted}
use Rattle.test_run.specs.declared.run_fault.RunFault.TheVariants as fault
use Rattle.cone_run.specs.Cones.{IsCone, IsConeOf, AreCones, AreConesOf, IsConeFault, IsConeSuite, GivesCone}
use Rattle.cone_run.specs.{Marks.without, Runs.HasTest, Runs.IsListFault, Runs.IsPieceOf}
use Rattle.cone_run.proofs.{Closures.cone_low, Closures.cone_positive, Closures.cone_own, Closures.few, Pairs.paired_at, Pairs.paired_length}

pub member_at : (l : List ℕ) (k d : ℕ) → k < length l → Member (get_or l k d) l
member_at [] k d h = absurd (omega arith)
member_at (y ∷ l) zero d h = inl refl
member_at (y ∷ l) (suc k) d h = inr (member_at l k d (omega arith))

pub filled : (t : ℕ) (l : List ℕ) → Member t l → 0 < length l
filled t [] m = absurd m
filled t (y ∷ l) m = omega arith

pub has_test : (p : Program) (R : List Edge) (t : ℕ) (l : List ℕ) → IsTyped p → GoUp (length p.tests) R → IsTest p t → IsCone R t l → HasTest p t l
has_test p R t l typed up test c =
    let n = length p.tests in
    let within : (u : ℕ) → Member u l → (0 < u) × (u ≤ n) = λ u m. (let a = cone_low R n up t l c u m in let b : t ≤ n = test.1 in (cone_positive R n up t l c test.0 u m, omega arith)) in
    record {
      tests = λ k d h. within (get_or l k d) (member_at l k d h);
      own = cone_own R n up t l c;
      few = (let a = few l n c.ascending within in let b = typed.linked.few_tests in omega arith);
    }

-- the cones of a selection
pub suite_cone : (p : Program) (R : List Edge) (sel : List ℕ) (i : ℕ) (l : List ℕ) → IsConeSuite p R sel → i < length sel → IsCone R (get_or sel i 0) l → HasTest p (get_or sel i 0) l
suite_cone p R sel i l s h c = has_test p R (get_or sel i 0) l s.typed s.recorded (s.tests i 0 h) c

pub all_short : (p : Program) (R : List Edge) (sel : List ℕ) (xs : List Posted) → IsConeSuite p R sel → AreConesOf p R sel xs → All (λ x. length x.list ≤ 1024) xs
all_short p R sel xs s c k d h =
    let n = paired_length c in
    let lt : k < length sel = omega arith in
    let of : IsConeOf p R (get_or sel k 0) (get_or xs k d) = paired_at c k 0 d lt in
    (suite_cone p R sel k (get_or xs k d).list s lt of.cone).few

-- a selection has few tests
pub few_selected : (p : Program) (R : List Edge) (sel : List ℕ) → IsConeSuite p R sel → length sel ≤ 1024
few_selected p R sel s =
    let a = few sel (length p.tests) s.ascending (λ u m. let w = place_of u sel m in subst (λ (z : ℕ). IsTest p z) w.1.1 (s.tests w.0 0 w.1.0)) in
    let b = s.typed.linked.few_tests in
    omega arith
  where
    place_of : (u : ℕ) (l : List ℕ) → Member u l → (k : ℕ) × ((k < length l) × (get_or l k 0 ≡ u))
    place_of u [] m = absurd m
    place_of u (y ∷ l) (inl e) = (zero, (omega arith, sym e))
    place_of u (y ∷ l) (inr m) = let w = place_of u l m in (suc w.0, (let h = w.1.0 in omega arith, w.1.1))

-- a member that passes
member_filter : (p : ℕ → Bool) (t : ℕ) (l : List ℕ) → p t ≡ true → Member t l → Member t (filter p l)
member_filter p t [] h m = absurd m
member_filter p t (y ∷ l) h (inl q) = rw (ap p (sym q) ∙ h) (inl q)
member_filter p t (y ∷ l) h (inr m) = elim (cases_Bool (p y)) [ inl e ↦ rw e (inr (member_filter p t l h m)) | inr e ↦ rw e (member_filter p t l h m) ]

-- without another test
pub without_has : (p : Program) (t u : ℕ) (l : List ℕ) → u < t → HasTest p t l → HasTest p t (without u l)
without_has p t u l lt h = record {
  tests = All-filter (λ x. not (nat_eq x u)) (IsTest p) l h.tests;
  own = member_filter (λ x. not (nat_eq x u)) t l (ap (λ (z : Bool). not z) (ne_eqb t u (λ e. omega arith))) h.own;
  few = (let a = length-filter_both (λ x. not (nat_eq x u)) (λ x. not (not (nat_eq x u))) (λ x. refl) l in let b = h.few in omega arith);
}

-- the piece of a cone
pub cone_piece : (p : Program) (R : List Edge) (t : ℕ) (l : List ℕ) (x : Posted) → IsCone R t l → IsPieceOf p l x → IsConeOf p R t x
cone_piece p R t l x c k = record {
  program = k.program;
  cone = subst (λ (z : List ℕ). IsCone R t z) (sym k.list) c;
  gives = subst (λ (z : List ℕ). last_outcome p z ≡ Some x.outcome) (sym k.list) k.gives;
}

-- the refusal of the cone at a place, where those before it gave something
pub first_fault : (p : Program) (R : List Edge) (sel : List ℕ) (i : ℕ) (l : List ℕ) (xs : List Posted) (begun now : ℕ) (e : RunFault) → IsConeSuite p R sel → i < length sel → IsCone R (get_or sel i 0) l →
    AreConesOf p R (take i sel) xs → IsListFault p l begun now e → IsConeFault p R (λ t. Member t sel) e
first_fault p R sel i l xs begun now fault.NoMemory s lt c before f = tt
first_fault p R sel i l xs begun now (fault.OverBudget u) s lt c before f = record {
  test = get_or sel i 0;
  within = member_at sel i 0 lt;
  list = l;
  cone = c;
  over = f.0;
  before = λ t m low. (
      let whole = split_at sel i 0 lt in
      let a : Ascending (take i sel ++ (get_or sel i 0 ∷ drop (suc i) sel)) = subst (λ (z : List ℕ). Ascending z) whole s.ascending in
      let k = below_mid (take i sel) (get_or sel i 0) (drop (suc i) sel) a t (subst (λ (z : List ℕ). Member t z) whole m) low in
      given_at (take i sel) xs before t k);
}
  where
    given_at : (ts : List ℕ) (ys : List Posted) → AreConesOf p R ts ys → (t : ℕ) → Member t ts → GivesCone p R t
    given_at [] [] no_more t m = absurd m
    given_at [] (y ∷ ys) pairs t m = elim pairs [ ]
    given_at (v ∷ ts) [] pairs t m = elim pairs [ ]
    given_at (v ∷ ts) (y ∷ ys) (one_more r rs) t (inl q) = subst (λ (z : ℕ). GivesCone p R z) (sym q) (record { list = y.list; cone = r.cone; outcome = y.outcome; gives = r.gives })
    given_at (v ∷ ts) (y ∷ ys) (one_more r rs) t (inr m) = given_at ts ys rs t m

-- the cone at a place, as an index reads it
pub cone_at : (R : List Edge) (sel : List ℕ) (lists : List (List ℕ)) (k : ℕ) (l m : List ℕ) → AreCones R sel lists → k < length lists → l ≡ get_or lists k l → m ≡ l → IsCone R (get_or sel k 0) m
cone_at R sel lists k l m c lt is e =
    let n = paired_length c in
    subst (λ (z : List ℕ). IsCone R (get_or sel k 0) z) (sym (e ∙ get_or_read lists k l lt is [])) (paired_at c k 0 [] (omega arith))

-- and its tests
pub tests_at : (p : Program) (R : List Edge) (sel : List ℕ) (lists : List (List ℕ)) (k : ℕ) (l m : List ℕ) → IsConeSuite p R sel → AreCones R sel lists → k < length lists → l ≡ get_or lists k l → m ≡ l → HasTest p (get_or sel k 0) m
tests_at p R sel lists k l m s c lt is e =
    let n = paired_length c in
    suite_cone p R sel k m s (omega arith) (cone_at R sel lists k l m c lt is e)
