-- A run of each of the three bodies, in any world.
use Rattle.std.proofs.Common.{◌≡◌, ℕ, suc, ◌+◌, ◌<◌, ◌^◌, true, false, ◌&&◌, pos, List, [], ◌∷◌, length, Some, None, refl, ap, ◌∙◌, arith}
use Rattle.std.specs.Prelude.{codes}
use Rattle.std.specs.Int.{w32}
use Rattle.std.proofs.lemmas.Int.{int_wrap_fits}
use Rattle.et_base.specs.Numbers.{add32}
use Rattle.jvm_model.specs.declared.{values.Value.Value, instr.Instr.Instr, outcome.Own.Own, outcome.Verdict.TheVariants.Passed, program.Program.Program}
use Rattle.jvm_model.specs.declared.values.Value.TheVariants as value
use Rattle.jvm_model.specs.declared.values.Location.TheVariants as place
use Rattle.jvm_model.specs.declared.instr.Instr.TheVariants as form
use Rattle.jvm_model.specs.declared.instr.Op.TheVariants as op
use Rattle.jvm_model.specs.{declared.program.Body.Body, declared.program.Placed.Placed, World.World, World.at, World.put, World.has}
use Rattle.jvm_model.specs.{State.State, State.Turn, State.test_at, State.started, Step.step, Suite.End, Suite.finished, Suite.after_step, Suite.whole}
use Rattle.jvm_model.specs.Access.{Access, Ran, done, write, spend, bind, run, read_of, write_of}
use Rattle.jvm_model.specs.Classes.{field_at, method_at, found_of, form_at, next_place, is_static, is_trivial}
use Rattle.generated_law.specs.GeneratedSuite.{print_number, body_with, setting_body, printing_body, adding_body}
use Rattle.generated_law.specs.GeneratedRun.{line_of}
use Rattle.generated_law.proofs.TestSteps.{inside, behind, StandsAt, Prints, with_line, const_step, get_step, put_step, add_step, print_step, return_step, first_step, last_step}

-- ---- a step and those after it

after : (p : Program) (n : ℕ) (s : State) (x : Access Turn) → step p s ≡ x → whole p (suc n) s ≡ bind x (after_step (λ t. whole p n t))
after p n s x e = ap (λ y. bind y (after_step (λ t. whole p n t))) e

stands : (p : Program) (m : ℕ) (b : Body) → (method_at p m).body ≡ Some b → (pc : ℕ) (i : Instr) (to : ℕ) → (elim (found_of (Some b) pc) [ None ↦ None | Some x ↦ Some x.form ]) ≡ Some i → (elim (found_of (Some b) pc) [ None ↦ pc | Some x ↦ x.after ]) ≡ to
    → StandsAt p m pc i to
unfolding form_at next_place
stands p m b e pc i to f n = record {
  form = ap (λ o. elim (found_of o pc) [ None ↦ None | Some x ↦ Some x.form ]) e ∙ f;
  follows = ap (λ o. elim (found_of o pc) [ None ↦ pc | Some x ↦ x.after ]) e ∙ n;
}

-- The test t of a program calls the static method m, of a class that is used without a step. The body is about the static f,
-- an int of the same class.
pub record CallsOn (p : Program) (t m c f : ℕ) : Type 0 where
  pub method : (test_at p t).method ≡ m
  pub static : is_static (method_at p m).flags ≡ true
  pub class : (method_at p m).class ≡ c
  pub trivial : is_trivial p c ≡ true
  pub owner : (field_at p f).class ≡ c
  pub type : (field_at p f).descriptor ≡ codes "I"

first : (p : Program) (t m c f stack length : ℕ) (code : List Placed) (n : ℕ) → CallsOn p t m c f → (method_at p m).body ≡ Some (body_with stack length code)
    → whole p (suc n) (started p t) ≡ spend 1 (spend (stack + 0) (whole p n (inside t m 0 [] (started p t).own)))
first p t m c f stack length code n h b = after p n (started p t) _ (first_step p t m c stack length code h.method h.static h.class h.trivial b)

-- the last two steps
ends : (p : Program) (t m pc to n : ℕ) (o : Own) → StandsAt p m pc (form.Return None) to → whole p (suc (suc n)) (inside t m pc [] o) ≡ spend 1 (spend 1 (done (finished Passed o.output)))
ends p t m pc to n o h = after p (suc n) (inside t m pc [] o) _ (return_step p t m pc to o h) ∙ ap (λ x. spend 1 x) (after p n (behind t o) _ (last_step p t o))

-- ---- setting

pub setting_run : (p : Program) (t m c f i n : ℕ) (w : World) → CallsOn p t m c f → (method_at p m).body ≡ Some (setting_body f i)
    → run (whole p (suc (suc (suc (suc (suc n))))) (started p t)) w
    ≡ record { sound = true; value = finished Passed []; world = put w (place.Static f) (value.Int (pos i)); touches = write_of (place.Static f) ∷ []; units = 6 }
setting_run p t m c f i n w h b =
    let o = (started p t).own in
    let body = setting_body f i in
    let const = after p (suc (suc (suc n))) (inside t m 0 [] o) _ (const_step p t m 0 3 [] o (value.Int (pos i)) (stands p m body b 0 (form.Const (value.Int (pos i))) 3 refl refl)) in
    let put = after p (suc (suc n)) (inside t m 3 (value.Int (pos i) ∷ []) o) _ (put_step p t m 3 6 c f [] o (pos i) (stands p m body b 3 (form.PutStatic f) 6 refl refl) h.owner h.trivial h.type) in
    let end = ends p t m 6 7 n o (stands p m body b 6 (form.Return None) 7 refl refl) in
    let all = first p t m c f 1 7 body.code (suc (suc (suc (suc n)))) h b
    ∙ ap (λ x. spend 1 (spend 1 x)) (const ∙ ap (λ x. spend 1 x) (put ∙ ap (λ x. spend 1 (write (place.Static f) (value.Int (pos i)) x)) end)) in
    ap (λ x. run x w) all

-- ---- reading a static

-- a run that spends n units first
abbrev paid : ℕ → Ran End → Ran End
paid n r = record { sound = r.sound; value = r.value; world = r.world; touches = r.touches; units = n + r.units }

-- one that reads a static first
abbrev looked : World → ℕ → Value → Ran End → Ran End
looked w f v r = record { sound = has w (place.Static f) && r.sound; value = r.value; world = r.world; touches = read_of (place.Static f) v ∷ r.touches; units = r.units }

-- ---- printing

pub printing_run : (p : Program) (t m c f d v n : ℕ) (w : World) → CallsOn p t m c f → (method_at p m).body ≡ Some (printing_body f) → Prints p print_number d → at w (place.Static f) ≡ value.Int (pos v)
    → run (whole p (suc (suc (suc (suc (suc n))))) (started p t)) w
    ≡ record { sound = true; value = finished Passed (line_of v); world = w; touches = read_of (place.Static f) (value.Int (pos v)) ∷ []; units = 1 + (1 + (1 + (1 + (length (line_of v) + 2)))) }
printing_run p t m c f d v n w h b e there =
    let o = (started p t).own in
    let body = printing_body f in
    let get = after p (suc (suc (suc n))) (inside t m 0 [] o) _ (get_step p t m 0 3 c f [] o (stands p m body b 0 (form.GetStatic f) 3 refl refl) h.owner h.trivial) in
    let print = after p (suc (suc n)) (inside t m 3 (value.Int (pos v) ∷ []) o) _ (print_step p t m 3 6 d print_number o (pos v) (stands p m body b 3 (form.InvokeStatic print_number) 6 refl refl) e) in
    let end = ends p t m 6 7 n (with_line o (pos v)) (stands p m body b 6 (form.Return None) 7 refl refl) in
    let later = print ∙ ap (λ x. spend 1 (spend (length (line_of v)) x)) end in
    ap (λ x. run x w) (first p t m c f 1 7 body.code (suc (suc (suc (suc n)))) h b ∙ ap (λ x. spend 1 (spend 1 x)) get)
    ∙ (ap (λ (z : Value). paid 1 (paid 1 (paid 1 (looked w f z (run (whole p (suc (suc (suc n))) (inside t m 3 (z ∷ []) o)) w))))) there
    ∙ ap (λ x. paid 1 (paid 1 (paid 1 (looked w f (value.Int (pos v)) (run x w))))) later)

-- ---- adding

sum_is : (a b : ℕ) → a + b < 2 ^ 31 → add32 (pos a) (pos b) ≡ pos (a + b)
unfolding add32
sum_is a b small = int_wrap_fits w32 (pos (a + b)) (omega (arith, small))

pub adding_run : (p : Program) (t m c f i v n : ℕ) (w : World) → CallsOn p t m c f → (method_at p m).body ≡ Some (adding_body f i) → at w (place.Static f) ≡ value.Int (pos v) → v + i < 2 ^ 31
    → run (whole p (suc (suc (suc (suc (suc (suc (suc n))))))) (started p t)) w
    ≡ record {
      sound = true;
      value = finished Passed [];
      world = put w (place.Static f) (value.Int (pos (v + i)));
      touches = read_of (place.Static f) (value.Int (pos v)) ∷ write_of (place.Static f) ∷ [];
      units = 9;
    }
adding_run p t m c f i v n w h b there small =
    let o = (started p t).own in
    let body = adding_body f i in
    let get = after p (suc (suc (suc (suc (suc n))))) (inside t m 0 [] o) _ (get_step p t m 0 3 c f [] o (stands p m body b 0 (form.GetStatic f) 3 refl refl) h.owner h.trivial) in
    let const = after p (suc (suc (suc (suc n)))) (inside t m 3 (value.Int (pos v) ∷ []) o) _ (const_step p t m 3 6 (value.Int (pos v) ∷ []) o (value.Int (pos i)) (stands p m body b 3 (form.Const (value.Int (pos i))) 6 refl refl)) in
    let add = after p (suc (suc (suc n))) (inside t m 6 (value.Int (pos i) ∷ value.Int (pos v) ∷ []) o) _ (add_step p t m 6 7 [] o (pos v) (pos i) (stands p m body b 6 (form.Binary op.Add false) 7 refl refl)) in
    let sum = ap (λ z. whole p (suc (suc (suc n))) (inside t m 7 (value.Int z ∷ []) o)) (sum_is v i small) in
    let put = after p (suc (suc n)) (inside t m 7 (value.Int (pos (v + i)) ∷ []) o) _ (put_step p t m 7 10 c f [] o (pos (v + i)) (stands p m body b 7 (form.PutStatic f) 10 refl refl) h.owner h.trivial h.type) in
    let end = ends p t m 10 11 n o (stands p m body b 10 (form.Return None) 11 refl refl) in
    let later = const ∙ ap (λ x. spend 1 x) (add ∙ ap (λ x. spend 1 x) (sum ∙ (put ∙ ap (λ x. spend 1 (write (place.Static f) (value.Int (pos (v + i))) x)) end))) in
    ap (λ x. run x w) (first p t m c f 2 11 body.code (suc (suc (suc (suc (suc (suc n)))))) h b ∙ ap (λ x. spend 1 (spend 2 x)) get)
    ∙ (ap (λ (z : Value). paid 1 (paid 2 (paid 1 (looked w f z (run (whole p (suc (suc (suc (suc (suc n))))) (inside t m 3 (z ∷ []) o)) w))))) there
    ∙ ap (λ x. paid 1 (paid 2 (paid 1 (looked w f (value.Int (pos v)) (run x w))))) later)
