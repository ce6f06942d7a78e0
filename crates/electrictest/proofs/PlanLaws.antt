-- Plans and their texts.
use Rattle.std.proofs.Common.{◌≡◌, ℕ, ◌+◌, ◌*◌, ◌^◌, ◌<◌, ◌≤◌, List, [], ◌∷◌, length, map, sum, nat_le, true, refl, ap, ◌∙◌, subst, arith, All}
use Rattle.std.specs.List.{list_all}
use Rattle.std.proofs.lemmas.{Bool.and_parts, Bool.leb-true, List.Sums.sum_by-cons}
use Rattle.order_law.specs.declared.edges.{Edge.Edge, EdgeKind.TheVariants.Raw}
use Rattle.order_law.specs.{Conflicts.Member, Conflicts.Closure, Conflicts.selected, Conflicts.source, Plan.AreListedChainsOf, RecordForm.is_record_form}
use Rattle.dep_graph.specs.Graphs.{GoUp}
use Rattle.selection_close.specs.Closed.{IsClosure}
use Rattle.suite_load.specs.declared.loaded.Loaded.{Loaded}
use Rattle.schedule_plan.specs.Plans.{HasUnits, HaveUnits}
use Rattle.schedule_plan.proofs.Places.{place_of}
use Rattle.electrictest.specs.{Selections.IsTestOf, Loads.IsSuite}

pub plus_none : (ns : List ℕ) → map (λ n. n + 0) ns ≡ ns
plus_none [] = refl
plus_none (n ∷ ns) = ap (λ m. m ∷ map (λ k. k + 0) ns) (let e : n + 0 ≡ n = omega arith in e) ∙ ap (λ (ms : List ℕ). n ∷ ms) (plus_none ns)

-- the sources of a test with units have units
pub closed_has : (n : ℕ) (R : List Edge) (sel units : List ℕ) → GoUp n R → HasUnits sel units → (t : ℕ) → Closure R (λ u. Member u sel) t → (0 < t) × (t ≤ length units)
closed_has n R sel units up h t (selected s) = h t s
closed_has n R sel units up h u (source {t = t} c e) =
    let p = closed_has n R sel units up h t c in
    let g = up Raw u t e in
    let low = p.1 in
    let less = g.1 in
    (g.0, omega arith)

-- so have the chains of a closure
pub chains_have : (n : ℕ) (R : List Edge) (sel set units : List ℕ) (C : List (List ℕ)) → GoUp n R → HasUnits sel units → IsClosure R sel set → AreListedChainsOf R (λ t. Member t set) C → HaveUnits C units
chains_have n R sel set units C up h closed listed = λ i t m. closed_has n R sel units up h t ((closed.exact t).0 (listed.chains.within i t m))

sum_within : (us : List ℕ) → list_all (λ u. nat_le u (2 ^ 26)) us ≡ true → sum us ≤ length us * 67108864
sum_within [] h = omega arith
sum_within (u ∷ us) h =
    let p = and_parts (nat_le u (2 ^ 26)) (list_all (λ v. nat_le v (2 ^ 26)) us) h in
    let a : u ≤ 67108864 = leb-true u 67108864 p.0 in
    let b = sum_within us p.1 in
    let c = sum_by-cons (λ (x : ℕ). x) u us in
    omega arith

-- 64 bits hold the units of a record
pub units_small : (units : List ℕ) (R : List Edge) → is_record_form units R ≡ true → sum units < 18446744073709551616
unfolding is_record_form
units_small units R h =
    let p = and_parts _ _ h in
    let q = and_parts _ _ p.0 in
    let few : length units ≤ 1024 = leb-true (length units) 1024 q.0 in
    let all = sum_within units q.1 in
    omega arith

-- tests of names have units, where there are as many units as tests
pub tests_have : (l : Loaded) (ts us units : List ℕ) → IsSuite l → us ≡ ts → All (IsTestOf l.names) ts → length units ≡ length l.checked.tests → HasUnits us units
tests_have l ts us units s e h many t m =
    let p = place_of ts t (subst (λ (z : List ℕ). Member t z) e m) in
    let q = h p.0 0 p.1 in
    let low = q.1 in
    let same = s.names in
    subst (λ (x : ℕ). (0 < x) × (x ≤ length units)) p.2 (q.0, omega arith)
