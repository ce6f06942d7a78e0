-- The law of order: after each lawful history the world holds what the last writers left in the suite's own order.
use Rattle.std.proofs.Common.{◌≡◌, ◌⊎◌, ℕ, zero, suc, ◌+◌, ◌-◌, ◌<◌, ◌≤◌, true, false, nat_le, List, [], ◌∷◌, length, get_or, map, slice_get, refl, sym, ◌∙◌, ap, subst, inl, inr, arith, Option, Some, None}
use Rattle.std.specs.List.{range_with_len}
use Rattle.std.proofs.lemmas.Bool.{cases_Bool, cases_order, cases_lt, eqb-true, eq-eqb}
use Rattle.jvm_model.specs.declared.{values.Value.Value, values.Location.Location, outcome.Outcome.Outcome, program.Program.Program, program.FieldRec.FieldRec}
use Rattle.jvm_model.specs.declared.values.Value.TheVariants.{Int, Long, Null, Lit, Obj}
use Rattle.jvm_model.specs.declared.values.Location.TheVariants as place
use Rattle.jvm_model.specs.{declared.program.TestEntry.TestEntry, World.Content, World.World, World.size, World.at, Access.Ran, Classes.no_field, State.test_at}
use Rattle.jvm_model.specs.Linked.{Linked}
use Rattle.jvm_model.specs.Suite.{End, tree, opening, Given, given_at, one_test, with_first, runs_on, runs, all_tests, outcome_in, given_by_test, seq, within_limit, is_detected}
use Rattle.jvm_model.proofs.{Locations.IsOf, Locations.at_past, Runs.split}
use Rattle.order_law.specs.{declared.edges.Edge.Edge, declared.edges.EdgeKind.TheVariants.Raw, Exposed.written, Numbers.with_places, Numbers.same_numbers}
use Rattle.order_law.specs.{Matched.PairedTest, Outcomes.PairedEnd, Frame.Agree, Frame.Forward, Frame.Alike}
use Rattle.order_law.specs.Pairing.{Matching, OneToOne, PairedValue, ints, longs, nulls, literals, PairedLocation, statics, inits, heads, at_field, at_elem, texts, files, props, PairedContent}
use Rattle.order_law.specs.Conflicts.{Member, HasEdge, Before, edge, Distinct, InOrder, Fits, History, down, last}
use Rattle.order_law.specs.Histories.{after_history, ran_after, given_after, writes_of, exposed_of, RecordOf, IsTestNumber, AreSequential, LawOfOrder}
use Rattle.order_law.proofs.{Pairs.written-paired, Pairs.place-paired, Frame.frame, Frame.grows, Leaves.unwritten, Leaves.written_partner, Steps.tree-paired}
use Rattle.order_law.proofs.Conflicts.{last_at_true, last_at_false, last_is, same_source}
use Rattle.order_law.proofs.Grow.{content-more, location-more, nothing_there, given_place}
use Rattle.order_law.proofs.Same.{equal_one, NoObject, opens_no_object, self_matched, verdict_is}
use Rattle.order_law.proofs.FrameLaw.{given_of, RanTo, ran_as, given_then, second_end}

abbrev pub alone_with : (ℕ → ℕ → Type 0) → Matching
alone_with P = with_places same_numbers P

openings : (xs : List FieldRec) → ((k : ℕ) → NoObject (get_or xs k no_field).opening) → (f : ℕ) → NoObject (get_or (map (λ (x : FieldRec). x.opening) xs) f Null)
openings [] g f = tt
openings (x ∷ xs) g zero = g 0
openings (x ∷ xs) g (suc f) = openings xs (λ k. g (suc k)) f

pub same_test : (t : TestEntry) → PairedTest same_numbers t t
same_test t = record { class = eq-eqb t.class t.class refl; method = eq-eqb t.method t.method refl; clock = refl; seed = refl }

module _ (p : Program) (linked : Linked p) where
  abbrev pub before_test : ℕ → World
  before_test t = after_history p (down t)

  -- place a is of an object that t makes in suite order
  abbrev pub MadeBy : ℕ → ℕ → Type 0
  MadeBy t a = (size (before_test t) ≤ a) × (a < size (before_test (suc t)))

  -- the places that are paired after a history: of suite order, and of the history
  abbrev pub Pairs : List ℕ → ℕ → ℕ → Type 0
  Pairs [] a b = ⊥
  Pairs (t ∷ D) a b = (MadeBy t a × (a + size (after_history p D) ≡ b + size (before_test t))) ⊎ Pairs D a b

  rises : (u t : ℕ) → u < t → size (before_test (suc u)) ≤ size (before_test t)
  rises u zero h = absurd (omega arith)
  rises u (suc zero) h = let e : u ≡ 0 = omega arith in rw e (omega arith)
  rises u (suc (suc t)) h = elim (cases_lt u (suc t)) [
    | inl l ↦ omega (arith, rises u (suc t) l, grows (tree p (suc t) (test_at p (suc t)).budget) (before_test (suc t)))
    | inr g ↦ let e : u ≡ suc t = omega arith in rw e (omega arith)
  ]

  apart : (t u a : ℕ) → MadeBy t a → MadeBy u a → t ≡ u
  apart t u a x y = elim (cases_order t u) [
    | inl e ↦ e
    | inr o ↦ elim o [ inl h ↦ absurd (omega (arith, rises t u h)) | inr h ↦ absurd (omega (arith, rises u t h)) ]
  ]

  maker : (D : List ℕ) (a b : ℕ) → Pairs D a b → (u : ℕ) × Member u D × MadeBy u a
  maker [] a b h = absurd h
  maker (t ∷ D) a b h = elim h [ inl x ↦ (t, inl refl, x.0) | inr y ↦ let r = maker D a b y in (r.0, inr r.1, r.2) ]

  -- what the writer left in suite order
  abbrev pub left : Option ℕ → (L : Location) → Content L
  left None L = at (opening p) L
  left (Some u) L = at (before_test (suc u)) L

  left_before : (t : ℕ) (L : Location) → at (before_test t) L ≡ left (last (writes_of p) (down t) L) L
  left_before (suc (suc t)) L = elim (cases_Bool (writes_of p (suc t) L)) [
    | inl b ↦ ap (λ (o : Option ℕ). left o L) (sym (last_at_true (writes_of p) (suc t) (down (suc t)) L b))
    | inr b ↦ unwritten (tree p (suc t) (test_at p (suc t)).budget) (before_test (suc t)) L b ∙ left_before (suc t) L ∙ ap (λ (o : Option ℕ). left o L) (sym (last_at_false (writes_of p) (suc t) (down (suc t)) L b))
  ]
  left_before _ L = refl

  pub record Holds (D : List ℕ) : Type 0 where
    pub below : (a b : ℕ) → Pairs D a b → b < size (after_history p D)
    pub one : OneToOne (Pairs D)
    pub held : (L M : Location) → PairedLocation (alone_with (Pairs D)) L M → PairedContent (alone_with (Pairs D)) L M (left (last (writes_of p) D L) L) (at (after_history p D) M)
    pub born : (L : Location) (u : ℕ) → Member u D → writes_of p u L ≡ true → (M : Location) × PairedLocation (alone_with (Pairs D)) L M

  -- nothing has run
  alone : (v : Value) → NoObject v → PairedValue (alone_with (Pairs [])) v v
  alone (Int n) h = ints n
  alone (Long n) h = longs n
  alone Null h = nulls
  alone (Lit n) h = literals (eq-eqb n n refl)
  alone (Obj o) h = absurd h

  no_objects : size (opening p) ≡ 0
  unfolding opening
  no_objects = refl

  opening_static : (f : ℕ) → NoObject (at (opening p) (place.Static f))
  unfolding opening
  opening_static f = openings p.fields (opens_no_object p linked) f

  held_first : (L M : Location) → PairedLocation (alone_with (Pairs [])) L M → PairedContent (alone_with (Pairs [])) L M (left None L) (at (opening p) M)
  held_first L M (statics {f} {g} e) = subst (λ (z : ℕ). PairedValue (alone_with (Pairs [])) (at (opening p) (place.Static f)) (at (opening p) (place.Static z))) (eqb-true f g e) (alone (at (opening p) (place.Static f)) (opening_static f))
  held_first L M (inits {c} {d} e) = ap (λ (z : ℕ). at (opening p) (place.Init z)) (eqb-true c d e)
  held_first L M (heads h) = absurd h
  held_first L M (texts h) = absurd h
  held_first L M (at_field h e) = absurd h
  held_first L M (at_elem i h) = absurd h
  held_first L M _ = refl

  pub holds_first : Holds []
  holds_first = record {
    below = λ a b h. absurd h;
    one = record { from_left = λ a b c h k. absurd h; from_right = λ a b c h k. absurd h };
    held = held_first;
    born = λ L u h e. absurd h;
  }

  -- one test more, number suc k
  module _ (D : List ℕ) (k : ℕ) (h : Holds D) (is_new : Member (suc k) D → ⊥) where
    one_more_test : OneToOne (Pairs (suc k ∷ D))
    one_more_test = record {
      from_left = λ a b c x y. elim x [
        | inl u ↦ elim y [ inl v ↦ omega arith | inr v ↦ absurd (let r = maker D a c v in is_new (subst (λ (z : ℕ). Member z D) (apart r.0 (suc k) a r.2 u.0) r.1)) ]
        | inr u ↦ elim y [ inl v ↦ absurd (let r = maker D a b u in is_new (subst (λ (z : ℕ). Member z D) (apart r.0 (suc k) a r.2 v.0) r.1)) | inr v ↦ h.one.from_left a b c u v ]
      ];
      from_right = λ a b c x y. elim x [
        | inl u ↦ elim y [ inl v ↦ omega arith | inr v ↦ absurd (omega (arith, h.below b c v)) ]
        | inr u ↦ elim y [ inl v ↦ absurd (omega (arith, h.below a c u)) | inr v ↦ h.one.from_right a b c u v ]
      ];
    }

    -- a pair of locations of an object that the test makes now
    record NewLocation (L M : Location) : Type 0 where
      first : ℕ
      second : ℕ
      of_left : IsOf L first
      of_right : IsOf M second
      made_now : MadeBy (suc k) first
      sums : first + size (after_history p D) ≡ second + size (before_test (suc k))

    old_or_new : {L M : Location} → PairedLocation (alone_with (Pairs (suc k ∷ D))) L M → PairedLocation (alone_with (Pairs D)) L M ⊎ NewLocation L M
    old_or_new (heads {a} {b} x) = elim x [ inl u ↦ inr (record { first = a; second = b; of_left = refl; of_right = refl; made_now = u.0; sums = u.1 }) | inr v ↦ inl (heads v) ]
    old_or_new (texts {a} {b} x) = elim x [ inl u ↦ inr (record { first = a; second = b; of_left = refl; of_right = refl; made_now = u.0; sums = u.1 }) | inr v ↦ inl (texts v) ]
    old_or_new (statics e) = inl (statics e)
    old_or_new (inits e) = inl (inits e)
    old_or_new (files e) = inl (files e)
    old_or_new (props e) = inl (props e)
    old_or_new (at_field {a} {b} x e) = elim x [ inl u ↦ inr (record { first = a; second = b; of_left = refl; of_right = refl; made_now = u.0; sums = u.1 }) | inr v ↦ inl (at_field v e) ]
    old_or_new (at_elem {a} {b} i x) = elim x [ inl u ↦ inr (record { first = a; second = b; of_left = refl; of_right = refl; made_now = u.0; sums = u.1 }) | inr v ↦ inl (at_elem i v) ]

    -- before the test runs, nothing stands there on either side
    both_nothing : {L M : Location} → NewLocation L M → PairedLocation (alone_with (Pairs (suc k ∷ D))) L M → PairedContent (alone_with (Pairs (suc k ∷ D))) L M (at (before_test (suc k)) L) (at (after_history p D) M)
    both_nothing {L} {M} u q = let x = u.made_now in let y = u.sums in
        rw (at_past (before_test (suc k)) L u.first u.of_left x.0, at_past (after_history p D) M u.second u.of_right (omega arith))
        (nothing_there same_numbers (Pairs (suc k ∷ D)) (Pairs (suc k ∷ D)) refl q)

    -- nor did a test of the history meet it
    not_old : {L M N : Location} → NewLocation L M → PairedLocation (alone_with (Pairs D)) L N → ⊥
    not_old u q = let g = given_place (alone_with (Pairs D)) u.first (place-paired (alone_with (Pairs D)) h.one equal_one equal_one q) u.of_left in
        let r = maker D u.first g.0 g.1 in is_new (subst (λ (z : ℕ). Member z D) (apart r.0 (suc k) u.first r.2 u.made_now) r.1)

    new_empty : {L M : Location} → NewLocation L M → at (before_test (suc k)) L ≡ at (opening p) L
    new_empty {L} u = let x = u.made_now in let e = no_objects in at_past (before_test (suc k)) L u.first u.of_left x.0 ∙ sym (at_past (opening p) L u.first u.of_left (omega arith))

    unborn : {L M : Location} → NewLocation L M → (o : Option ℕ) → last (writes_of p) D L ≡ o → o ≡ None
    unborn u None e = refl
    unborn {L} u (Some x) e = absurd (let i = last_is (writes_of p) D L x e in not_old u (h.born L x i.0 i.1).1)

    -- what was there before the test ran, itself apart
    held_before : (L M : Location) → PairedLocation (alone_with (Pairs (suc k ∷ D))) L M → PairedContent (alone_with (Pairs (suc k ∷ D))) L M (left (last (writes_of p) D L) L) (at (after_history p D) M)
    held_before L M q = elim (old_or_new q) [
      | inl o ↦ content-more same_numbers (Pairs D) (Pairs (suc k ∷ D)) (λ a b. inr) o (left (last (writes_of p) D L) L) (at (after_history p D) M) (h.held L M o)
      | inr u ↦ subst (λ (o : Option ℕ). PairedContent (alone_with (Pairs (suc k ∷ D))) L M (left o L) (at (after_history p D) M)) (sym (unborn u (last (writes_of p) D L) refl))
          (subst (λ (c : Content L). PairedContent (alone_with (Pairs (suc k ∷ D))) L M c (at (after_history p D) M)) (new_empty u) (both_nothing u q))
    ]

    -- the frame law at this step
    module _ (R : List Edge) (is_record : RecordOf p R) (history : History R D) (fits : Fits R D (suc k))
        (ok : (ran_after p (down (suc k)) (suc k)).sound ≡ true) (low : suc k ≤ length p.tests) (all_low : (x : ℕ) → Member x D → IsTestNumber p x) where
      forward : Forward (alone_with (Pairs (suc k ∷ D))) (before_test (suc k)) (after_history p D)
      forward a b x lt = elim x [ inl u ↦ absurd (omega arith) | inr v ↦ h.below a b v ]

      agree : Agree (alone_with (Pairs (suc k ∷ D))) (ran_after p (down (suc k)) (suc k)).touches (before_test (suc k)) (after_history p D)
      agree L M q e = elim (old_or_new q) [
        | inl o ↦ content-more same_numbers (Pairs D) (Pairs (suc k ∷ D)) (λ a b. inr) o (at (before_test (suc k)) L) (at (after_history p D) M)
            (let source = same_source (writes_of p) (exposed_of p) (length p.tests) R is_record D (suc k) L fits history (omega arith) low all_low e in
            let same_left : at (before_test (suc k)) L ≡ left (last (writes_of p) D L) L = left_before (suc k) L ∙ ap (λ (o : Option ℕ). left o L) (sym source) in
            subst (λ (c : Content L). PairedContent (alone_with (Pairs D)) L M c (at (after_history p D) M)) (sym same_left) (h.held L M o))
        | inr u ↦ both_nothing u q
      ]

      pub alike : Alike (alone_with (Pairs (suc k ∷ D))) (PairedEnd same_numbers) (before_test (suc k)) (after_history p D) (ran_after p (down (suc k)) (suc k)) (ran_after p D (suc k))
      alike = frame (alone_with (Pairs (suc k ∷ D))) one_more_test equal_one equal_one
          (tree-paired (record { numbers = same_numbers; place = Pairs (suc k ∷ D); one = one_more_test; left = p; right = p; matched = (self_matched p linked).code }) (self_matched p linked).starts (suc k) (suc k) (test_at p (suc k)).budget (same_test (test_at p (suc k))))
          (before_test (suc k)) (after_history p D) ok forward (λ i j lo hi e. inl ((lo, hi), e)) agree

      held_more : (L M : Location) → PairedLocation (alone_with (Pairs (suc k ∷ D))) L M →
          PairedContent (alone_with (Pairs (suc k ∷ D))) L M (left (last (writes_of p) (suc k ∷ D) L) L) (at (after_history p (suc k ∷ D)) M)
      held_more L M q = elim (cases_Bool (writes_of p (suc k) L)) [
        | inl b ↦ let now = alike.worlds L M q (inl b) in
            subst (λ (o : Option ℕ). PairedContent (alone_with (Pairs (suc k ∷ D))) L M (left o L) (at (after_history p (suc k ∷ D)) M)) (sym (last_at_true (writes_of p) (suc k) D L b)) now
        | inr b ↦ let there : written (ran_after p D (suc k)).touches M ≡ false = sym (written-paired (alone_with (Pairs (suc k ∷ D))) one_more_test equal_one equal_one alike.touches q) ∙ b in
            let kept = unwritten (tree p (suc k) (test_at p (suc k)).budget) (after_history p D) M there in
            subst (λ (o : Option ℕ). PairedContent (alone_with (Pairs (suc k ∷ D))) L M (left o L) (at (after_history p (suc k ∷ D)) M)) (sym (last_at_false (writes_of p) (suc k) D L b))
            (subst (λ (c : Content M). PairedContent (alone_with (Pairs (suc k ∷ D))) L M (left (last (writes_of p) D L) L) c) (sym kept) (held_before L M q))
      ]

      pub holds_more : Holds (suc k ∷ D)
      holds_more = record {
        below = λ a b x. elim x [
          | inl u ↦ let e = alike.sizes in omega arith
          | inr v ↦ let r = h.below a b v in omega (arith, grows (tree p (suc k) (test_at p (suc k)).budget) (after_history p D))
        ];
        one = one_more_test;
        held = held_more;
        born = λ L u i e. elim i [
          | inl g ↦ written_partner (alone_with (Pairs (suc k ∷ D))) L alike.touches (subst (λ (z : ℕ). writes_of p z L ≡ true) g e)
          | inr j ↦ let r = h.born L u j e in (r.0, location-more same_numbers (Pairs D) (Pairs (suc k ∷ D)) (λ a b. inr) r.1)
        ];
      }

-- what a test gives after another history than its own
pub record Again (p : Program) (D : List ℕ) (t : ℕ) (x : Given) : Type 0 where
  pub given : Given
  pub is : given_after p D t ≡ Some given
  pub outcome : given.outcome ≡ x.outcome
  pub world : given.world ≡ after_history p (t ∷ D)

again : (p : Program) (D : List ℕ) (t : ℕ) (x : Given) (r s : Ran End) → RanTo (test_at p t).budget r x → s ≡ ran_after p D t → s.sound ≡ true → PairedEnd same_numbers r.value s.value → r.units ≡ s.units → Again p D t x
unfolding one_test
again p D t x r s f e ok pe u =
    let o = second_end same_numbers f.verdict f.output pe f.value in
    let g = given_then (test_at p t).budget s o.verdict o.output ok o.is (subst (λ (z : ℕ). nat_le z (test_at p t).budget ≡ true) u f.within) in
    record {
      given = given_of o.verdict o.output s;
      is = sym (ap (λ (z : Ran End). given_at (test_at p t).budget z.sound z.value z.world z.touches z.units) e) ∙ g;
      outcome = (let v = verdict_is o.alike in let k : (given_of o.verdict o.output s).outcome ≡ (given_of f.verdict f.output r).outcome = λ i. record { verdict = sym v i; output = sym o.same i; units = sym u i } in k ∙ ap (λ (z : Given). z.outcome) f.is);
      world = ap (λ (z : Ran End). z.world) e;
    }

pub world_as : (p : Program) (D : List ℕ) (t : ℕ) (x : Given) → given_after p D t ≡ Some x → x.world ≡ after_history p (t ∷ D)
world_as p D t x e = let f = ran_as p (after_history p D) t (test_at p t).budget x e in sym (ap (λ (z : Given). z.world) f.is)

-- the i-th test of the suite, in the suite's own order
record InOrderAt (p : Program) (xs : List Given) (i t : ℕ) : Type 0 where
  given : Given
  listed : slice_get xs i ≡ Some given
  is : given_after p (down t) t ≡ Some given

in_order : (p : Program) (n a : ℕ) (xs : List Given) (w : World) → w ≡ after_history p (down (suc a)) → runs_on p w (range_with_len (suc a) n) ≡ Some xs → (i : ℕ) → i < n → InOrderAt p xs i (suc a + i)
in_order p zero a xs w g e i h = absurd (omega arith)
in_order p (suc n) a xs w g e zero h =
    let s = split p w (suc a) _ xs e in
    let z : suc a ≡ suc a + 0 = omega arith in
    subst (λ (t : ℕ). InOrderAt p xs 0 t) z (record { given = s.first; listed = ap (λ (ys : List Given). slice_get ys 0) s.whole; is = ap (λ (v : World). one_test p v (suc a) (test_at p (suc a)).budget) (sym g) ∙ s.first_is })
in_order p (suc n) a xs w g e (suc i) h =
    let s = split p w (suc a) _ xs e in
    let f : given_after p (down (suc a)) (suc a) ≡ Some s.first = ap (λ (v : World). one_test p v (suc a) (test_at p (suc a)).budget) (sym g) ∙ s.first_is in
    let z : suc a + 1 ≡ suc (suc a) = omega arith in
    let o = ap (λ (b : ℕ). runs_on p s.first.world (range_with_len b n)) (sym z) ∙ s.others_are in
    let r = in_order p n (suc a) s.others s.first.world (world_as p (down (suc a)) (suc a) s.first f) o i (omega arith) in
    let q : suc (suc a) + i ≡ suc a + suc i = omega arith in
    subst (λ (t : ℕ). InOrderAt p xs (suc i) t) q (record { given = r.given; listed = ap (λ (ys : List Given). slice_get ys (suc i)) s.whole ∙ r.listed; is = r.is })

-- a test of a detected suite
pub record InSuite (p : Program) (t : ℕ) : Type 0 where
  pub given : Given
  pub is : given_after p (down t) t ≡ Some given
  pub outcome : seq p t ≡ Some given.outcome

in_suite_at : (p : Program) (t : ℕ) (o : Option (List Given)) → runs p (all_tests p) ≡ o → within_limit o ≡ true → IsTestNumber p t → InSuite p t
unfolding runs seq
in_suite_at p t None e b h = absurd (cc)
in_suite_at p t (Some xs) e b h =
    let k : t ≡ 1 + (t - 1) = omega arith in
    let r = in_order p (length p.tests) 0 xs (opening p) refl e (t - 1) (omega arith) in
    let i : given_after p (down t) t ≡ Some r.given = subst (λ (z : ℕ). given_after p (down z) z ≡ Some r.given) (sym k) r.is in
    record { given = r.given; is = i; outcome = ap (λ (z : Option (List Given)). outcome_in (given_by_test z t)) e ∙ ap outcome_in r.listed }

pub in_suite : (p : Program) (t : ℕ) → is_detected p ≡ true → IsTestNumber p t → InSuite p t
unfolding is_detected
in_suite p t b h = in_suite_at p t (runs p (all_tests p)) refl b h

-- a list, read from its front after the history D
pub record Front (p : Program) (R : List Edge) (D l : List ℕ) : Type 0 where
  pub low : (t : ℕ) → Member t l → IsTestNumber p t
  pub distinct : Distinct l
  pub is_new : (t : ℕ) → Member t l → Member t D → ⊥
  pub in_order : InOrder R l
  pub none_behind : (t x : ℕ) → Member t l → Member x D → Before R t x → ⊥
  pub closed : (u t : ℕ) → Member t l → HasEdge R Raw u t → Member u l ⊎ Member u D

module _ (p : Program) (linked : Linked p) (R : List Edge) (is_record : RecordOf p R) (detected : is_detected p ≡ true) where
  fits_next : (D l : List ℕ) (t : ℕ) → Front p R D (t ∷ l) → Fits R D t
  fits_next D l t f = record {
    is_new = f.is_new t (inl refl);
    closed = λ u i. elim (f.closed u t (inl refl) i) [
      | inl j ↦ elim j [
        | inl e ↦ absurd (let c = ((is_record Raw u t).0 i).3.0 in omega arith)
        | inr k ↦ absurd (f.in_order.0 u k (edge Raw i))
      ]
      | inr j ↦ j
    ];
    in_order = λ x i b. f.none_behind t x (inl refl) i b;
  }

  rest_of : (D l : List ℕ) (t : ℕ) → Front p R D (t ∷ l) → Front p R (t ∷ D) l
  rest_of D l t f = record {
    low = λ x i. f.low x (inr i);
    distinct = f.distinct.1;
    is_new = λ x i j. elim j [ inl e ↦ f.distinct.0 (subst (λ (z : ℕ). Member z l) e i) | inr k ↦ f.is_new x (inr i) k ];
    in_order = f.in_order.1;
    none_behind = λ x y i j b. elim j [ inl e ↦ f.in_order.0 x i (subst (λ (z : ℕ). Before R x z) e b) | inr k ↦ f.none_behind x y (inr i) k b ];
    closed = λ u x i r. elim (f.closed u x (inr i) r) [ inl j ↦ elim j [ inl e ↦ inr (inl e) | inr k ↦ inl k ] | inr j ↦ inr (inr j) ];
  }

  -- one test after a lawful history does what it does in the suite's own order
  pub record Next (D : List ℕ) (t : ℕ) : Type 0 where
    pub first : InSuite p t
    pub here : Again p D t first.given
    pub holds : Holds p linked (t ∷ D)

  pub next_test : (D : List ℕ) (t : ℕ) → Holds p linked D → History R D → Fits R D t → IsTestNumber p t → ((x : ℕ) → Member x D → IsTestNumber p x) → Next D t
  next_test D zero h hs fits low al = absurd (let k = low.0 in omega arith)
  next_test D (suc k) h hs fits low al =
      let x = in_suite p (suc k) detected low in
      let f = ran_as p (after_history p (down (suc k))) (suc k) (test_at p (suc k)).budget x.given x.is in
      let a = alike p linked D k h fits.is_new R is_record hs fits f.sound low.1 al in
      record {
        first = x;
        here = again p D (suc k) x.given (ran_after p (down (suc k)) (suc k)) (ran_after p D (suc k)) f refl a.sound a.value a.units;
        holds = holds_more p linked D k h fits.is_new R is_record hs fits f.sound low.1 al;
      }

  all_runs : (l D : List ℕ) (w : World) → w ≡ after_history p D → Holds p linked D → History R D → ((x : ℕ) → Member x D → IsTestNumber p x) → Front p R D l →
      (xs : List Given) × (runs_on p w l ≡ Some xs) × AreSequential p l xs
  all_runs [] D w g h hs al f = ([], refl, tt)
  all_runs (t ∷ l) D w g h hs al f =
      let fits = fits_next D l t f in
      let low = f.low t (inl refl) in
      let n = next_test D t h hs fits low al in
      let rest = all_runs l (t ∷ D) n.here.given.world n.here.world n.holds (fits, hs) (λ x i. elim i [ inl e ↦ subst (λ (z : ℕ). IsTestNumber p z) (sym e) low | inr j ↦ al x j ]) (rest_of D l t f) in (
        n.here.given ∷ rest.0,
        ap (λ (v : World). runs_on p v (t ∷ l)) g ∙ ap (λ (o : Option Given). elim o [ None ↦ None | Some x ↦ with_first x (runs_on p x.world l) ]) n.here.is ∙ ap (λ (o : Option (List Given)). with_first n.here.given o) rest.1,
        (n.first.outcome ∙ ap (λ (o : Outcome). Some o) (sym n.here.outcome), rest.2),
      )

pub law_of_order : LawOfOrder
unfolding runs
law_of_order p R l linked detected is_record low lawful = all_runs p linked R is_record detected l [] (opening p) refl (holds_first p linked) tt (λ x i. absurd i) (record {
  low = low;
  distinct = lawful.distinct;
  is_new = λ t i j. absurd j;
  in_order = lawful.in_order;
  none_behind = λ t x i j b. absurd j;
  closed = λ u t i r. inl (lawful.closed u t i r);
})
