-- A selection of all tests is closed.
use Rattle.std.proofs.Common.{◌≡◌, ℕ, zero, suc, ◌+◌, ◌<◌, ◌≤◌, List, [], ◌∷◌, length, refl, sym, subst, arith, inl, inr}
use Rattle.std.specs.List.{range_with_len}
use Rattle.order_law.proofs.OwnRecord.{in_range}
use Rattle.jvm_model.specs.Suite.{all_tests}
use Rattle.order_law.specs.{Conflicts.Member, Conflicts.selected, OwnRecord.edges_of, Plan.Ascending}
use Rattle.suite_load.specs.declared.loaded.Loaded.{Loaded}
use Rattle.electrictest.specs.{Begun.IsOfSuite, PoolRuns.IsChosen, Records.Beginning}
use Rattle.electrictest.proofs.PoolLaws.{own_of}

-- an ascending list of exactly the numbers of a range
range_is : (n a : ℕ) (l : List ℕ) → Ascending l → ((x : ℕ) → Member x l → (a ≤ x) × (x < a + n)) → ((x : ℕ) → a ≤ x → x < a + n → Member x l) → l ≡ range_with_len a n
range_is zero a [] asc within has = refl
range_is zero a (x ∷ l) asc within has = let w = within x (inl refl) in absurd (omega (arith, w.0, w.1))
range_is (suc n) a [] asc within has = absurd (has a (omega arith) (omega arith))
range_is (suc n) a (x ∷ l) asc within has =
    let first : x ≡ a = elim (has a (omega arith) (omega arith)) [
      | inl e ↦ sym e
      | inr m ↦ let low = asc.0 a m in let w = within x (inl refl) in absurd (omega (arith, low, w.0))
    ] in
    let rest : l ≡ range_with_len (a + 1) n = range_is n (a + 1) l asc.1
    (λ y m. let low = asc.0 y m in let w = within y (inr m) in (omega (arith, low, first), omega (arith, w.1)))
    (λ y low high. elim (has y (omega (arith, low)) (omega (arith, high))) [ inl e ↦ absurd (omega (arith, low, e, first)) | inr m ↦ m ]) in
    λ i. first i ∷ rest i

pub closed_all : (l : Loaded) (b : Beginning) → IsOfSuite l b → b.said.edges ≡ edges_of l.checked → b.tests ≡ all_tests l.checked → (set : List ℕ) (chains : List (List ℕ)) (many : ℕ) → IsChosen b set chains many →
    set ≡ all_tests l.checked
closed_all l b suite same all set chains many chosen =
    let o = own_of l b suite same set chains many chosen in
    let n = length l.checked.tests in
    range_is n 1 set chosen.closure.ascending
    (λ x m. let i = o.inside x m in (omega (arith, i.0), omega (arith, i.1)))
    (λ x low high. (chosen.closure.exact x).1 (selected (subst (λ (ts : List ℕ). Member x ts) (sym all) (in_range n 1 x low high))))
