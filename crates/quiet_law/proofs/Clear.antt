-- Where both runs do the same, and it touches nothing but what they have alike, they come out alike.
use Rattle.std.proofs.Common.{◌≡◌, ◌⊎◌, ℕ, suc, ◌≤◌, List, [], ◌∷◌, Bool, true, false, not, ◌&&◌, ◌||◌, cond, All, sym, subst, inl, inr, arith}
use Rattle.std.proofs.lemmas.Bool.{or_cases, and_parts}
use Rattle.order_law.proofs.Leaves.{one_of}
use Rattle.jvm_model.specs.{declared.values.Location.Location, declared.values.Touch.Touch, declared.program.Program.Program, World.World, World.same}
use Rattle.jvm_model.specs.declared.values.Location.TheVariants as place
use Rattle.jvm_model.specs.{Classes.field_at, Access.Access, Access.Ran, Access.run}
use Rattle.jvm_model.proofs.Locations.{same_true}
use Rattle.order_law.specs.{Exposed.written, Exposed.exposed, Pairing.Paired}
use Rattle.check_sound.proofs.Paced.{Limits, MayTouch, Paced, paced_touched}
use Rattle.quiet_init.proofs.Beside.{IsHushed, IsPending, IsClear, Beside}
use Rattle.quiet_law.proofs.Together.{itself, Equal, alike, beside_after}

-- neither statics of a hushed class that is Idle nor states of hushed classes
abbrev pub clear : Program → World → Limits
clear p w = record {
  puts = λ f. IsPending p w (field_at p f).class → ⊥;
  gets = λ f. IsPending p w (field_at p f).class → ⊥;
  states = λ c. IsHushed p c → ⊥;
}

is_clear : (p : Program) (w : World) (L : Location) → MayTouch (clear p w) L → IsClear p w L
is_clear p w (place.Static f) h = λ i. elim h [ inl a ↦ a i | inr a ↦ a i ]
is_clear p w (place.Init c) h = h
is_clear p w _ h = tt

-- the location of the first touch, or of a later one
exposed_at : (b s r : Bool) → cond b (not s && r) (s || r) ≡ true → (s ≡ true) ⊎ (r ≡ true)
exposed_at true s r e = inr (and_parts (not s) r e).1
exposed_at false s r e = or_cases s r e

at_first : (P : Location → Type 0) (x : Touch) (L : Location) → P x.location → same L x.location ≡ true → P L
at_first P x L h q = subst P (sym (same_true L x.location q)) h

among_touches : (P : Location → Type 0) (ts : List Touch) (L : Location) → All (λ (t : Touch). P t.location) ts → (written ts L ≡ true) ⊎ (exposed ts L ≡ true) → P L
among_touches P (x ∷ ts) L a h = elim h [
  | inl e ↦ elim (one_of x.write (same L x.location) (written ts L) e) [ inl q ↦ at_first P x L (a 0 x (omega arith)) q | inr q ↦ among_touches P ts L (λ k d l. a (suc k) d (omega arith)) (inl q) ]
  | inr e ↦ elim (exposed_at x.write (same L x.location) (exposed ts L) e) [ inl q ↦ at_first P x L (a 0 x (omega arith)) q | inr q ↦ among_touches P ts L (λ k d l. a (suc k) d (omega arith)) (inr q) ]
]
among_touches P [] L a (inl e) = absurd (cc)
among_touches P [] L a (inr e) = absurd (cc)

-- The second run comes out as the first did, over worlds that are beside one another, and costs no more.
pub record Locked (p : Program) {A B : Type 0} (Q : A → B → Type 0) (r : Ran A) (q : Ran B) : Type 0 where
  pub value : Q r.value q.value
  pub world : Beside p Equal r.world q.world
  pub units : q.units ≤ r.units
  pub sound : q.sound ≡ true

pub lock : (p : Program) (w v : World) → Beside p Equal w v → {A B : Type 0} {Q : A → B → Type 0} {a : Access A} {b : Access B} → Paired itself Q a b → {G : ℕ → ℕ → A → Type 0} (c d : ℕ) → Paced (clear p w) G c d a →
    (run a w).sound ≡ true → Locked p Q (run a w) (run b v)
lock p w v bs {a = a} {b = b} same {G = G} c d h ok =
    let clears = (λ (L : Location) (e : (written (run a w).touches L ≡ true) ⊎ (exposed (run a w).touches L ≡ true)). is_clear p w L (among_touches (MayTouch (clear p w)) (run a w).touches L (paced_touched (clear p w) G a w c d h) e)) in
    let r = alike p same w v bs ok clears in
    record { value = r.value; world = beside_after p same w v bs ok clears; units = (let e = r.units in omega arith); sound = r.sound }
