-- What a record's form says of its reaches.
use Rattle.std.proofs.Common.{◌≡◌, ℕ, ◌≤◌, List, [], ◌∷◌, length, true, ◌&&◌, nat_eq, nat_le, refl, subst, arith, Option, Some}
use Rattle.std.specs.List.{list_all}
use Rattle.std.proofs.lemmas.Bool.{and_parts, and_from, eqb-true, leb-true}
use Rattle.order_law.specs.declared.records.{More.More, Reach.Reach, Record.Record}
use Rattle.order_law.specs.RecordForm.{are_units, is_record_form, numbers_ascend, is_reach, is_reach_form}
use Rattle.impact_pick.specs.Form.{are_within}

module _ (r : Record) (m : More) (e : r.more ≡ Some m) where
  reaches : (nat_le (length m.classes) 1024 && (nat_eq (length m.reach) (length r.units) && list_all (λ z. is_reach (length m.classes) z) m.reach)) ≡ true
  unfolding is_reach_form
  reaches = subst (λ (o : Option More). is_reach_form r.units o ≡ true) e r.more_form

  pub few_tests : length m.reach ≤ 1024
  unfolding is_record_form
  few_tests =
      let a = and_parts (nat_eq (length m.reach) (length r.units)) _ (and_parts (nat_le (length m.classes) 1024) _ reaches).1 in
      let b = eqb-true (length m.reach) (length r.units) a.0 in
      let c = and_parts (nat_le (length r.units) 1024) _ (and_parts (are_units r.units) _ r.form).0 in
      let d = leb-true (length r.units) 1024 c.0 in
      omega arith

  pub few_classes : length m.classes ≤ 1024
  few_classes = leb-true (length m.classes) 1024 (and_parts (nat_le (length m.classes) 1024) _ reaches).0

  each : (n : ℕ) (xs : List Reach) → list_all (λ z. is_reach n z) xs ≡ true → list_all (λ z. are_within n z.classes) xs ≡ true
  each n [] h = refl
  each n (x ∷ xs) h =
      let a = and_parts (is_reach n x) (list_all (λ z. is_reach n z) xs) h in
      let b = and_parts (nat_le 1 (length x.classes)) _ a.0 in
      and_from (are_within n x.classes) _ (and_parts (are_within n x.classes) (numbers_ascend x.classes) b.1).0 (each n xs a.1)

  pub within : list_all (λ z. are_within (length m.classes) z.classes) m.reach ≡ true
  within = each (length m.classes) m.reach (and_parts (nat_eq (length m.reach) (length r.units)) _ (and_parts (nat_le (length m.classes) 1024) _ reaches).1).1
