-- Tests that are carried from one program over to another give the same.
use Rattle.std.proofs.Common.{◌≡◌, ℕ, suc, ◌<◌, ◌≤◌, length, get_or, map, List, ◌∷◌, true, false, refl, sym, ◌∙◌, ap, subst, inl, inr, arith, Some, None}
use Rattle.std.specs.Str.{bytes_eq}
use Rattle.std.proofs.Math.ListN.{get_or-map}
use Rattle.jvm_model.specs.declared.values.{Value.Value, InitState.TheVariants.Idle, Location.Location, Touch.Touch}
use Rattle.jvm_model.specs.declared.program.{Program.Program, FieldRec.FieldRec, ClassRec.ClassRec}
use Rattle.jvm_model.specs.{World.World, World.size, World.at, World.look, Suite.opening, Suite.Given, Suite.one_test, Suite.is_detected}
use Rattle.jvm_model.specs.{Classes.field_at, Classes.no_field, Linked.Linked, State.test_at}
use Rattle.order_law.specs.{Conflicts.down, Exposed.exposed, Matched.Matched, Outcomes.PairedOutcome, Reach.is_settled, Reach.puts_out_somewhere}
use Rattle.order_law.specs.Histories.{after_history, given_after, touches_of, IsTestNumber}
use Rattle.order_law.specs.Pairing.{PairedValue, PairedLocation, statics, inits, heads, at_field, at_elem, texts, files, props, PairedContent}
use Rattle.order_law.specs.Numbers.{Numbers, Tested, with_places}
use Rattle.order_law.proofs.{FrameLaw.ran_as, PlainRows.constant-paired, Histories.InSuite, Histories.in_suite, Histories.world_as}
use Rattle.impact_pick.specs.Carried.{IsCarried, GivesSame, CarriedLaw}
use Rattle.impact_pick.proofs.Worlds.{AlikeWorlds, itself, itself_is, stays_alike}
use Rattle.impact_pick.proofs.Alone.{out_stays, settled_reads, settled_puts, gives_alone}

all_idle : (cs : List ClassRec) (c : ℕ) → get_or (map (λ (x : ClassRec). Idle) cs) c Idle ≡ Idle
all_idle (x ∷ cs) (suc c) = all_idle cs c
all_idle _ _ = refl

module _ (p q : Program) (n : Numbers) (mt : Matched n p q) (same_files : p.files ≡ q.files) where
  nothing_below : (a c : ℕ) → Tested (itself (size (opening p))) a c → ⊥
  unfolding opening
  nothing_below a c e = let i = (itself_is 0 a c e).1 in absurd (omega arith)

  opening_held : (L M : Location) → PairedLocation (with_places n (Tested (itself (size (opening p))))) L M → PairedContent (with_places n (Tested (itself (size (opening p))))) L M (at (opening p) L) (at (opening q) M)
  unfolding opening
  opening_held L M (statics {f} {g} e) =
      let a : at (opening p) L ≡ (field_at p f).opening = get_or-map (λ (x : FieldRec). x.opening) p.fields f no_field in
      let c : at (opening q) M ≡ (field_at q g).opening = get_or-map (λ (x : FieldRec). x.opening) q.fields g no_field in
      subst (λ (z : Value). PairedValue (with_places n (Tested (itself (size (opening p))))) z (at (opening q) M)) (sym a)
      (subst (λ (z : Value). PairedValue (with_places n (Tested (itself (size (opening p))))) (field_at p f).opening z) (sym c) (constant-paired n (Tested (itself (size (opening p)))) (mt.starts.openings f g e)))
  opening_held L M (inits {c} {d} e) = all_idle p.classes c ∙ sym (all_idle q.classes d)
  opening_held L M (files k) = ap (λ (fs : List (List ℕ × List ℕ)). look bytes_eq None (map (λ x. (x.0, Some x.1)) fs) k) same_files
  opening_held L M (props k) = refl
  opening_held L M (heads {a} {b} y) = absurd (nothing_below a b y)
  opening_held L M (texts {a} {b} y) = absurd (nothing_below a b y)
  opening_held L M (at_field {a} {b} y e) = absurd (nothing_below a b y)
  opening_held L M (at_elem {a} {b} i y) = absurd (nothing_below a b y)

  opening_alike : AlikeWorlds n (opening p) (opening q)
  unfolding opening
  opening_alike = record { sizes = refl; held = opening_held }

  abbrev before : Program → ℕ → World
  before r t = after_history r (down t)

  module _ (dp : is_detected p ≡ true) (dq : is_detected q ≡ true) (tests : length p.tests ≡ length q.tests) where
    -- the second program's test under the first one's budget
    given_there : (t : ℕ) (x : Given) → IsCarried n p q t → one_test q (before q t) t (test_at p t).budget ≡ Some x → given_after q (down t) t ≡ Some x
    given_there t x c e = ap (λ (b : ℕ). one_test q (before q t) t b) (sym c.budget) ∙ e

    -- where all tests before a test are carried over, the worlds before it are alike
    before_alike : (t : ℕ) → t ≤ length p.tests → ((u : ℕ) → 0 < u → u < t → IsCarried n p q u) → AlikeWorlds n (before p t) (before q t)
    before_alike (suc (suc k)) low f =
        let h = before_alike (suc k) (omega arith) (λ u lo hi. f u lo (omega arith)) in
        let c = f (suc k) (omega arith) (omega arith) in
        let x = in_suite p (suc k) dp (omega arith, omega arith) in
        let s = stays_alike p q n mt (suc k) (test_at p (suc k)).budget (before p (suc k)) (before q (suc k)) h c.test x.given x.is in
        let a : x.given.world ≡ before p (suc (suc k)) = world_as p (down (suc k)) (suc k) x.given x.is in
        let b : s.given.world ≡ before q (suc (suc k)) = world_as q (down (suc k)) (suc k) s.given (given_there (suc k) s.given c s.is) in
        subst (λ (z : World). AlikeWorlds n z (before q (suc (suc k)))) a (subst (λ (z : World). AlikeWorlds n x.given.world z) b s.worlds)
    before_alike _ low f = opening_alike

    -- what the second program's suite gives is what its test gives there
    there : (t : ℕ) (x : InSuite p t) (y : Given) → IsTestNumber p t → given_after q (down t) t ≡ Some y → PairedOutcome n x.given.outcome y.outcome → GivesSame n p q t
    there t x y low e o =
        let z = in_suite q t dq (low.0, (let k = low.1 in omega arith)) in
        let g : Some y ≡ Some z.given = sym e ∙ z.is in
        let k : y ≡ z.given = cc in
        record { first = x.given.outcome; second = z.given.outcome; first_is = x.outcome; second_is = z.outcome; same = subst (λ (u : Given). PairedOutcome n x.given.outcome u.outcome) k o }

    after_carried : (t : ℕ) → IsTestNumber p t → IsCarried n p q t → ((u : ℕ) → 0 < u → u < t → IsCarried n p q u) → GivesSame n p q t
    after_carried t low c f =
        let x = in_suite p t dp low in
        let s = stays_alike p q n mt t (test_at p t).budget (before p t) (before q t) (before_alike t low.1 f) c.test x.given x.is in
        there t x s.given low (given_there t s.given c s.is) s.outcome

    module _ (lp : Linked p) (lq : Linked q) where
      alone : (t : ℕ) → IsTestNumber p t → IsCarried n p q t → is_settled p t ≡ true → puts_out_somewhere q ≡ false → GivesSame n p q t
      alone t low c e h =
          let x = in_suite p t dp low in
          let f = ran_as p (before p t) t (test_at p t).budget x.given x.is in
          let ts : touches_of p t ≡ x.given.touches = ap (λ (z : Given). z.touches) f.is in
          let s = gives_alone p q n mt lp lq t (test_at p t).budget (before p t) (before q t) c.test x.given x.is
          (λ L k. settled_reads p t e L (ap (λ (us : List Touch). exposed us L) ts ∙ k))
          (out_stays p lp (settled_puts p t e) (down t)) (out_stays q lq h (down t)) in
          there t x s.given low (given_there t s.given c s.is) s.outcome

pub carried_law : CarriedLaw
carried_law p q n t lp lq mt fs tests dp dq low c how = elim how [
  | inl f ↦ after_carried p q n mt fs dp dq tests t low c f
  | inr g ↦ alone p q n mt fs dp dq tests lp lq t low c g.0 g.1
]
