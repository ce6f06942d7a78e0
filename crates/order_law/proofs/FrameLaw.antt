-- The frame law for two programs.
use Rattle.std.proofs.Common.{◌≡◌, ℕ, List, Bool, true, false, nat_le, refl, sym, ◌∙◌, ap, subst, inl, inr, arith, Some, None}
use Rattle.std.proofs.lemmas.Bool.{cases_Bool}
use Rattle.jvm_model.specs.declared.{values.Location.Location, values.Touch.Touch, outcome.Verdict.Verdict, program.Program.Program}
use Rattle.jvm_model.specs.World.{World, no_object, part, size, at}
use Rattle.jvm_model.specs.{Access.Ran, Access.run, State.test_at}
use Rattle.jvm_model.specs.Suite.{End, finished, stuck, out_of_steps, tree, Given, given_at, one_test}
use Rattle.jvm_model.proofs.Locations.{at_past}
use Rattle.order_law.specs.{Exposed.exposed, Matched.Matched, Matched.PairedTest}
use Rattle.order_law.specs.Pairing.{Matching, OneToOne, PairedLocation, PairedContent, statics, inits, heads, at_field, at_elem, texts, files, props}
use Rattle.order_law.specs.{Frame.Agree, Frame.Forward, Frame.Alike, Numbers.Numbers, Numbers.Tested, Numbers.with_places}
use Rattle.order_law.specs.Outcomes.{PairedVerdict, PairedEnd, both_stuck, both_out, both_finished}
use Rattle.order_law.specs.FrameLaw.{PairsObjects, AlsoMade, SameTest, FrameLaw}
use Rattle.order_law.proofs.{Frame.frame, Grow.content-more, Grow.nothing_there, Steps.tree-paired}

-- what a run gives that ended so
abbrev pub given_of : Verdict → List ℕ → Ran End → Given
given_of v o r = record { outcome = record { verdict = v; output = o; units = r.units }; world = r.world; touches = r.touches }

-- what a test gave says of its run
pub record RanTo (b : ℕ) (r : Ran End) (x : Given) : Type 0 where
  pub verdict : Verdict
  pub output : List ℕ
  pub sound : r.sound ≡ true
  pub value : r.value ≡ finished verdict output
  pub within : nat_le r.units b ≡ true
  pub is : given_of verdict output r ≡ x

pub ran_to : (b : ℕ) (sound : Bool) (e : End) (w : World) (ts : List Touch) (u : ℕ) (x : Given) → given_at b sound e w ts u ≡ Some x →
    RanTo b (record { sound = sound; value = e; world = w; touches = ts; units = u }) x
ran_to b false e w ts u x g = absurd (cc)
ran_to b true stuck w ts u x g = absurd (cc)
ran_to b true out_of_steps w ts u x g = absurd (cc)
ran_to b true (finished v o) w ts u x g = elim (cases_Bool (nat_le u b)) [
  | inr h ↦ let z : None ≡ Some x = sym (rw h refl) ∙ g in absurd (cc)
  | inl h ↦
      let y : Given = record { outcome = record { verdict = v; output = o; units = u }; world = w; touches = ts } in
      let z : Some y ≡ Some x = sym (rw h refl) ∙ g in
      record { verdict = v; output = o; sound = refl; value = refl; within = h; is = (cc) }
]

pub given_then : (b : ℕ) (r : Ran End) (v : Verdict) (o : List ℕ) → r.sound ≡ true → r.value ≡ finished v o → nat_le r.units b ≡ true →
    given_at b r.sound r.value r.world r.touches r.units ≡ Some (given_of v o r)
given_then b r v o s e h = ap (λ (z : Bool). given_at b z r.value r.world r.touches r.units) s ∙ ap (λ (z : End). given_at b true z r.world r.touches r.units) e ∙ rw h refl

-- what a test gave is what its run came to
pub ran_as : (p : Program) (w : World) (t b : ℕ) (x : Given) → one_test p w t b ≡ Some x → RanTo b (run (tree p t b) w) x
unfolding one_test
ran_as p w t b x e = let r = run (tree p t b) w in ran_to b r.sound r.value r.world r.touches r.units x e

-- the end of the second run
pub record SecondEnd (n : Numbers) (v : Verdict) (o : List ℕ) (f : End) : Type 0 where
  pub verdict : Verdict
  pub output : List ℕ
  pub is : f ≡ finished verdict output
  pub alike : PairedVerdict n v verdict
  pub same : o ≡ output

pub second_end : (n : Numbers) (v : Verdict) (o : List ℕ) {e f : End} → PairedEnd n e f → e ≡ finished v o → SecondEnd n v o f
second_end n v o both_stuck g = absurd (cc)
second_end n v o both_out g = absurd (cc)
second_end n v o (both_finished {v = x} {w = y} {o = k} {r = l} p s) g = record {
  verdict = y;
  output = l;
  is = refl;
  alike = (let h : x ≡ v = cc in subst (λ (z : Verdict). PairedVerdict n z y) h p);
  same = (let h : k ≡ o = cc in sym h ∙ s);
}

-- At an old location the given pairing says what is paired; at one of an object that the runs make nothing stands on either side.
module _ (n : Numbers) (w v : World) (π : ℕ → ℕ → Bool) (end : ℕ) (root : n.class 0 0 ≡ true) where
  abbrev old : Matching
  old = with_places n (Tested π)

  abbrev new : Matching
  new = with_places n (AlsoMade π w v end)

  still : {L M : Location} → PairedLocation old L M → PairedContent old L M (at w L) (at v M) → PairedContent new L M (at w L) (at v M)
  still {L} {M} y r = content-more n (Tested π) (AlsoMade π w v end) (λ a b y. inl y) y (at w L) (at v M) r

  none : {L M : Location} → PairedLocation new L M → PairedContent new L M (part no_object L) (part no_object M)
  none y = nothing_there n (AlsoMade π w v end) (AlsoMade π w v end) root y

  pub also_paired : (P : Location → Type 0) → ((L M : Location) → PairedLocation old L M → P L → PairedContent old L M (at w L) (at v M)) →
      (L M : Location) → PairedLocation new L M → P L → PairedContent new L M (at w L) (at v M)
  also_paired P ag L M (statics e) x = still (statics e) (ag L M (statics e) x)
  also_paired P ag L M (inits e) x = ag L M (inits e) x
  also_paired P ag L M (files e) x = ag L M (files e) x
  also_paired P ag L M (props e) x = ag L M (props e) x
  also_paired P ag L M (heads {a} {b} y) x = elim y [
    | inl k ↦ still (heads k) (ag L M (heads k) x)
    | inr k ↦ rw (at_past w L a refl k.0, at_past v M b refl (omega arith)) (none (heads (inr k)))
  ]
  also_paired P ag L M (texts {a} {b} y) x = elim y [
    | inl k ↦ still (texts k) (ag L M (texts k) x)
    | inr k ↦ rw (at_past w L a refl k.0, at_past v M b refl (omega arith)) (none (texts (inr k)))
  ]
  also_paired P ag L M (at_field {a} {b} y e) x = elim y [
    | inl k ↦ still (at_field k e) (ag L M (at_field k e) x)
    | inr k ↦ rw (at_past w L a refl k.0, at_past v M b refl (omega arith)) (none (at_field (inr k) e))
  ]
  also_paired P ag L M (at_elem {a} {b} i y) x = elim y [
    | inl k ↦ still (at_elem i k) (ag L M (at_elem i k) x)
    | inr k ↦ rw (at_past w L a refl k.0, at_past v M b refl (omega arith)) (none (at_elem i (inr k)))
  ]

module _ (p q : Program) (n : Numbers) (t u b : ℕ) (w v : World) (π : ℕ → ℕ → Bool) (mt : Matched n p q) (pt : PairedTest n (test_at p t) (test_at q u)) (po : PairsObjects π w v) where
  abbrev first : Ran End
  first = run (tree p t b) w

  abbrev second : Ran End
  second = run (tree q u b) v

  abbrev all : ℕ → ℕ → Type 0
  all = AlsoMade π w v (size (run (tree p t b) w).world)

  one_all : OneToOne all
  one_all = record {
    from_left = λ a b c x y. elim x [
      | inl u ↦ elim y [ inl k ↦ po.one.from_left a b c u k | inr k ↦ absurd (let z = po.left a b u in omega arith) ]
      | inr u ↦ elim y [ inl k ↦ absurd (let z = po.left a c k in omega arith) | inr k ↦ omega arith ]
    ];
    from_right = λ a b c x y. elim x [
      | inl u ↦ elim y [ inl k ↦ po.one.from_right a b c u k | inr k ↦ absurd (let z = po.right a c u in omega arith) ]
      | inr u ↦ elim y [ inl k ↦ absurd (let z = po.right b c k in omega arith) | inr k ↦ omega arith ]
    ];
  }

  forward_all : Forward (with_places n all) w v
  forward_all a b x lt = elim x [ inl u ↦ po.right a b u | inr u ↦ absurd (omega arith) ]

  alike : first.sound ≡ true → Agree (with_places n (Tested π)) first.touches w v → Alike (with_places n all) (PairedEnd n) w v (run (tree p t b) w) (run (tree q u b) v)
  alike ok ag = frame (with_places n all) one_all mt.code.one_field mt.code.one_class
      (tree-paired (record { numbers = n; place = all; one = one_all; left = p; right = q; matched = mt.code }) mt.starts t u b pt) w v ok forward_all (λ i j lo hi e. inr (lo, hi, e))
      (also_paired n w v π (size (run (tree p t b) w).world) (mt.code.builtin 0 (omega arith)) (λ L. exposed first.touches L ≡ true) ag)

  same_test : (x : Verdict) (o : List ℕ) → first.sound ≡ true → first.value ≡ finished x o → nat_le first.units b ≡ true → Agree (with_places n (Tested π)) first.touches w v →
      SameTest n (with_places n (AlsoMade π w v (size (given_of x o (run (tree p t b) w)).world))) q w v u b (given_of x o (run (tree p t b) w))
  unfolding one_test
  same_test x o ok e h ag =
      let a = alike ok ag in
      let s = second_end n x o a.value e in
      record {
        given = given_of s.verdict s.output (run (tree q u b) v);
        is = given_then b (run (tree q u b) v) s.verdict s.output a.sound s.is (subst (λ (z : ℕ). nat_le z b ≡ true) a.units h);
        outcome = record { verdict = s.alike; output = s.same; units = a.units };
        touches = a.touches;
        sizes = a.sizes;
        worlds = a.worlds;
      }

pub frame_law : FrameLaw
frame_law p q n t u b w v π mt pt po x e =
    let f = ran_as p w t b x e in
    subst (λ (z : Given). Agree (with_places n (Tested π)) z.touches w v → SameTest n (with_places n (AlsoMade π w v (size z.world))) q w v u b z) f.is
    (same_test p q n t u b w v π mt pt po f.verdict f.output f.sound f.value f.within)
