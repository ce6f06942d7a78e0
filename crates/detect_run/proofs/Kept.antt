-- The record of a program's own run is in a record's form.
use Rattle.std.proofs.Common.{◌≡◌, ℕ, zero, suc, ◌+◌, ◌-◌, ◌^◌, ◌<◌, ◌≤◌, Bool, true, nat_eq, nat_le, nat_lt, List, [], ◌∷◌, map, length, slice_get, Option, Some, None, refl, sym, ◌∙◌, ap, inl, inr, arith}
use Rattle.std.specs.List.{list_all}
use Rattle.std.proofs.lemmas.Bool.{and_from, and_parts, eq-eqb, le-leb, leb-true, lt-ltb}
use Rattle.std.proofs.lemmas.{List.length-map, Option.slice_get_within}
use Rattle.std.proofs.lemmas.List.FromFn.{length-range_with_len}
use Rattle.jvm_model.specs.declared.program.Program.{Program}
use Rattle.jvm_model.specs.{Builtin.builtin_count, State.test_at}
use Rattle.jvm_model.specs.Suite.{Given, runs, all_tests, seq, is_detected, suite_limit, within_limit, units_of}
use Rattle.type_frames.specs.Typing.{IsTyped}
use Rattle.check_sound.proofs.PacedTest.{given_paced}
use Rattle.order_law.specs.declared.edges.Edge.{Edge}
use Rattle.order_law.specs.declared.records.{More.More, Reach.Reach}
use Rattle.order_law.specs.{Conflicts.Member, Histories.touches_of, OwnRecord.edges_of, OwnRecord.owner}
use Rattle.order_law.specs.Reach.{units_in, IsReachOf, kinds_of}
use Rattle.order_law.specs.RecordForm.{are_units, is_edge, is_place_text, is_record_form, is_reach, is_reach_form}
use Rattle.order_law.proofs.OwnForm.{units_law, ordered_law, counted_law, reach_law}
use Rattle.detect_run.proofs.{Along.test_gives, InOrder.of_run}

-- the whole suite's run, whose units keep to the limit
pub record HasRun (p : Program) : Type 0 where
  pub given : List Given
  pub ran : runs p (all_tests p) ≡ Some given
  pub few : units_of given ≤ 67108864

run_by : (p : Program) (o : Option (List Given)) → runs p (all_tests p) ≡ o → within_limit o ≡ true → HasRun p
unfolding suite_limit
run_by p None e h = absurd (cc)
run_by p (Some xs) e h = record { given = xs; ran = e; few = leb-true (units_of xs) 67108864 h }

pub has_run : (p : Program) → is_detected p ≡ true → HasRun p
unfolding is_detected
has_run p h = run_by p (runs p (all_tests p)) refl h

few_units : (xs : List Given) (i : ℕ) (x : Given) → slice_get xs i ≡ Some x → x.outcome.units ≤ units_of xs
few_units [] i x e = absurd (cc)
few_units (y ∷ xs) zero x e = let z : y ≡ x = cc in let q = ap (λ (g : Given). g.outcome.units) z in omega arith
few_units (y ∷ xs) (suc i) x e = let h = few_units xs i x e in omega arith

-- lists
all_edges : (n : ℕ) (es : List Edge) → ((e : Edge) → Member e es → is_place_text e.first ≡ true → is_edge n e ≡ true) → list_all (λ e. is_place_text e.first) es ≡ true → list_all (λ e. is_edge n e) es ≡ true
all_edges n [] f h = refl
all_edges n (e ∷ es) f h =
    let q = and_parts (is_place_text e.first) (list_all (λ e. is_place_text e.first) es) h in
    and_from (is_edge n e) (list_all (λ e. is_edge n e) es) (f e (inl refl) q.0) (all_edges n es (λ d i. f d (inr i)) q.1)

all_listed : (f : Reach → Bool) (rs : List Reach) → ((i : ℕ) (r : Reach) → slice_get rs i ≡ Some r → f r ≡ true) → list_all f rs ≡ true
all_listed f [] h = refl
all_listed f (r ∷ rs) h = and_from (f r) (list_all f rs) (h 0 r refl) (all_listed f rs (λ i s e. h (suc i) s e))

module _ (p : Program) (ty : IsTyped p) (detected : is_detected p ≡ true) where
  abbrev own_units : List ℕ
  own_units = map (λ t. units_in (seq p t)) (all_tests p)

  pub units_each : length own_units ≡ length p.tests
  units_each = length-map (all_tests p) (λ t. units_in (seq p t)) ∙ length-range_with_len 1 (length p.tests)

  -- a test touches so few locations
  few_touches : (t : ℕ) → 0 < t → t ≤ length p.tests → length (touches_of p t) ≤ 2 ^ 28
  few_touches zero lo hi = absurd (omega arith)
  few_touches (suc i) lo hi =
      let r = has_run p detected in
      let a = test_gives p ty r.given r.ran i (omega arith) in
      let u = few_units r.given i a.given a.listed in
      let f = r.few in
      let b = given_paced p ty.linked (suc i) (test_at p (suc i)).budget _ a.given a.gives (omega arith) in
      let e = ap length (of_run p i a.given a.gives).touches in
      omega arith

  edge_form : (e : Edge) → Member e (edges_of p) → is_place_text e.first ≡ true → is_edge (length own_units) e ≡ true
  edge_form e i h =
      let c = counted_law p (touches_of p) (owner p) e i in
      let first = c.first in
      let rises = c.rises in
      let last = c.last in
      let few = c.few in
      let n = units_each in
      let m = few_touches e.later (omega arith) last in
      and_from (nat_le 1 e.earlier) _ (le-leb 1 e.earlier first) (and_from (nat_lt e.earlier e.later) _ (lt-ltb e.earlier e.later rises) (and_from (nat_le e.later (length own_units)) _ (le-leb e.later (length own_units) (omega arith))
      (and_from (nat_le 1 e.count) _ (le-leb 1 e.count c.some) (and_from (nat_le e.count (2 ^ 28)) _ (le-leb e.count (2 ^ 28) (omega arith)) h))))

  own_form : list_all (λ e. is_place_text e.first) (edges_of p) ≡ true → is_record_form own_units (edges_of p) ≡ true
  unfolding is_record_form
  own_form h = and_from (are_units own_units) _ (units_law p ty.linked detected)
      (and_from (list_all (λ e. is_edge (length own_units) e) (edges_of p)) _ (all_edges (length own_units) (edges_of p) edge_form h) (ordered_law p (touches_of p) (owner p)))

  pub record_form : (us : List ℕ) (es : List Edge) → us ≡ own_units → es ≡ edges_of p → list_all (λ e. is_place_text e.first) es ≡ true → is_record_form us es ≡ true
  record_form us es f g h =
      ap (λ (z : List ℕ). is_record_form z es) f ∙ ap (λ (z : List Edge). is_record_form own_units z) g
      ∙ own_form (ap (λ (z : List Edge). list_all (λ e. is_place_text e.first) z) (sym g) ∙ h)

  each_reach : (c : ℕ) (rs : List Reach) → c ≡ length p.classes - builtin_count → length rs ≡ length p.tests → ((i : ℕ) (r : Reach) → slice_get rs i ≡ Some r → IsReachOf p (i + 1) r) → list_all (λ r. is_reach c r) rs ≡ true
  each_reach c rs e n f = all_listed (λ r. is_reach c r) rs (λ i r g. let h = slice_get_within rs i r g in
      ap (λ (k : ℕ). is_reach k r) e ∙ reach_law p (touches_of p) (kinds_of p) (i + 1) r ty.linked (omega arith, omega arith) (f i r g))

  pub reach_form : (us : List ℕ) (m : More) → us ≡ own_units → length m.classes ≡ length p.classes - builtin_count → length m.reach ≡ length p.tests →
      ((i : ℕ) (r : Reach) → slice_get m.reach i ≡ Some r → IsReachOf p (i + 1) r) → is_reach_form us (Some m) ≡ true
  unfolding is_reach_form
  reach_form us m f e n each =
      let few = ty.linked.few_classes in
      let u = ap length f ∙ units_each in
      and_from (nat_le (length m.classes) 1024) _ (le-leb (length m.classes) 1024 (omega arith)) (and_from (nat_eq (length m.reach) (length us)) _ (eq-eqb (length m.reach) (length us) (n ∙ sym u))
      (each_reach (length m.classes) m.reach e n each))
