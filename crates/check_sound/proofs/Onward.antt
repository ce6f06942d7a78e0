-- What is typed of entries stays so in a world that goes on.
use Rattle.std.proofs.Common.{◌≡◌, ℕ, ◌<◌, List, [], ◌∷◌, ◌++◌, length, drop, false, nat_eq, nat_le, get_or, Option, Some, None, refl, sym, ◌∙◌, ap, subst, arith, inl, inr}
use Rattle.std.specs.{List.AllByRecursion, List.IsDistinct}
use Rattle.std.proofs.lemmas.{Map.Keys.IsDistinct-cons, Bool.cases_Bool, Bool.eqb-true, Bool.leb-false}
use Rattle.std.specs.Prelude.{flat_map}
use Rattle.jvm_model.specs.declared.{values.Value.Value, values.InitState.TheVariants.Idle, values.InitState.TheVariants.Running, state.EntryKind.EntryKind}
use Rattle.jvm_model.specs.declared.values.Location.TheVariants as place
use Rattle.jvm_model.specs.declared.state.EntryKind.TheVariants.{Absent, InMethod, InClass}
use Rattle.jvm_model.specs.{declared.instr.Instr.Instr, declared.program.Program.Program, Classes.method_at, Classes.is_trivial}
use Rattle.jvm_model.specs.World.{Object, World, at, put, make_object, same}
use Rattle.jvm_model.specs.Entries.{Entry, Entries, entry_limit, class_entry, with_entry, is_full, all_entries}
use Rattle.jvm_model.proofs.Locations.{same_false, at_put_other, at_put_same}
use Rattle.type_frames.specs.{Environment.environment_of, StackEffect.sides, Typing.IsTyped}
use Rattle.type_frames.specs.TypedState.{Stands, Goes, Waits, Initialises, IsTop, IsBelow, AllBelow, class_begun, values_of}
use Rattle.check_sound.proofs.{Tree.Over, Tree.Alike, Held.locals_over, Held.held_over, WorldKept.mark_over, WorldKept.make_over, TreeRuns.state_same}
use Rattle.check_sound.proofs.Grow.{over_itself, alike_over, range_over, ranged_over, types_over, stack_over}
use Rattle.check_sound.proofs.Ready.{TypedEntries, stub, AllRanged, Rest, IsEntry, opened, closed, Grows, Ready}

pub grows_itself : (w : World) → Grows w w
grows_itself w = record { over = over_itself w; running = λ c e. e }

pub grows_make : (p : Program) (w : World) (x : Object) → Grows w (make_object w x)
grows_make p w x = record { over = make_over p w x; running = λ c e. e }

pub grows_alike : (u w : World) → Alike u w → Grows u w
grows_alike u w a = record { over = alike_over u w a; running = λ c e. sym (a.states c) ∙ e }

-- a class that is begun is one more that is Running
pub grows_begin : (p : Program) (w : World) (c : ℕ) → Grows w (put w (place.Init c) Running)
grows_begin p w c = record {
  over = mark_over p w c Running;
  running = λ d e. elim (cases_Bool (same (place.Init d) (place.Init c))) [
    | inl q ↦ state_same w c d Running refl q
    | inr q ↦ at_put_other w (place.Init c) (place.Init d) Running (same_false (place.Init d) (place.Init c) q) ∙ e
  ];
}

module _ (p : Program) (u w : World) (g : Over u w) where
  pub stands_over : (f : Entry) → Stands p u f → Stands p w f
  stands_over f s = record {
    body = s.body;
    given = s.given;
    index = s.index;
    instruction = s.instruction;
    types = s.types;
    fits = s.fits;
    has_code = s.has_code;
    has_frames = s.has_frames;
    there = s.there;
    place = s.place;
    known = s.known;
    locals = types_over p u w g (environment_of p (method_at p f.number) s.body s.given) s.types.locals f.locals s.locals;
  }

  pub goes_over : (f : Entry) → Goes p u f → Goes p w f
  unfolding stands_over
  goes_over f h = let s = h.stands in record { stands = stands_over f s; operands = stack_over p u w g (environment_of p (method_at p f.number) s.body s.given) s.types.stack f.stack h.operands }

  pub waits_over : (n : ℕ) (f : Entry) → Waits p u n f → Waits p w n f
  unfolding stands_over
  waits_over n f h = let s = h.stands in record {
    stands = stands_over f s;
    named = h.named;
    call = h.call;
    same_name = h.same_name;
    same_descriptor = h.same_descriptor;
    operands = stack_over p u w g (environment_of p (method_at p f.number) s.body s.given) (drop (length (sides p (environment_of p (method_at p f.number) s.body s.given) f.pc s.types s.instruction.form).takes) s.types.stack) f.stack h.operands;
  }

  pub all_ranged_over : (fs : List Entry) → AllRanged p u fs → AllRanged p w fs
  all_ranged_over [] h = tt
  all_ranged_over (f ∷ fs) h = (ranged_over p u w g f.stack h.0, ranged_over p u w g f.locals h.1, all_ranged_over fs h.2)

-- no class of these entries stops being initialised
abbrev pub StayRunning : World → World → List ℕ → Type 0
StayRunning u w [] = Unit {0}
StayRunning u w (c ∷ cs) = (at u (place.Init c) ≡ Running → at w (place.Init c) ≡ Running) × StayRunning u w cs

pub all_stay : (u w : World) → ((c : ℕ) → at u (place.Init c) ≡ Running → at w (place.Init c) ≡ Running) → (cs : List ℕ) → StayRunning u w cs
all_stay u w f [] = tt
all_stay u w f (c ∷ cs) = (f c, all_stay u w f cs)

module _ (p : Program) (u w : World) (g : Over u w) where
  initialises_over : (f : Entry) → (at u (place.Init f.number) ≡ Running → at w (place.Init f.number) ≡ Running) → Initialises p u f → Initialises p w f
  initialises_over f r h = record { not_trivial = h.not_trivial; running = r h.running }

  below_over : (f a : Entry) (i j : EntryKind) → StayRunning u w (elim i as (λ x. List ℕ) [ Absent ↦ [] | InMethod ↦ [] | InClass b ↦ f.number ∷ [] ]) → IsBelow p u f i a j → IsBelow p w f i a j
  below_over f a InMethod InMethod r h = waits_over p u w g a.number f h
  below_over f a InMethod (InClass b) r h = goes_over p u w g f h
  below_over f a (InClass b) j r h = (initialises_over f r.0 h.0, h.1)
  below_over f a _ _ r h = absurd h

  stay_parts : (cs ds : List ℕ) → StayRunning u w (cs ++ ds) → StayRunning u w cs × StayRunning u w ds
  stay_parts [] ds h = (tt, h)
  stay_parts (c ∷ cs) ds h = let q = stay_parts cs ds h.1 in ((h.0, q.0), q.1)

  all_below_over : (a : Entry) (fs : List Entry) → StayRunning u w (flat_map class_begun fs) → AllBelow p u a fs → AllBelow p w a fs
  all_below_over a [] r h = tt
  all_below_over a (f ∷ fs) r h = let q = stay_parts (class_begun f) (flat_map class_begun fs) r in (below_over f a f.kind a.kind q.0 h.0, all_below_over f fs q.1 h.1)

  -- the rest of the entries, where their classes stay Running
  pub rest_kept : {k : EntryKind} {n : ℕ} (fs : List Entry) → StayRunning u w (flat_map class_begun fs) → Rest p u k n fs → Rest p w k n fs
  rest_kept {k = k} {n = n} fs r h = record { each = all_below_over (stub k n) fs r h.each; range = all_ranged_over p u w g fs h.range; few = h.few; apart = h.apart }

pub rest_grows : {p : Program} {u w : World} {k : EntryKind} {n : ℕ} (fs : List Entry) → Grows u w → Rest p u k n fs → Rest p w k n fs
rest_grows {p = p} {u = u} {w = w} fs g h = rest_kept p u w g.over fs (all_stay u w g.running (flat_map class_begun fs)) h

unfoldable pub ready_grows : {p : Program} {u w : World} {s : Entries} {i : Instr} → Grows u w → Ready p u s i → Ready p w s i
ready_grows {s = s} g r = record { body = r.body; given = r.given; index = r.index; types = r.types; fits = r.fits; has_code = r.has_code; has_frames = r.has_frames; there = r.there; known = r.known; kept = r.kept; kind = r.kind; locals = locals_over g.over r.locals; stack = held_over g.over r.stack; rest = rest_grows s.below g r.rest }

-- entries in a world that goes on
top_over : (p : Program) (u w : World) → Grows u w → (raised : Option Value) (k : EntryKind) (e : Entry) → IsTop p u raised k e → IsTop p w raised k e
top_over p u w g raised Absent e h = tt
top_over p u w g None InMethod e h = goes_over p u w g.over e h
top_over p u w g (Some v) InMethod e h = stands_over p u w g.over e h
top_over p u w g raised (InClass b) e h = record { not_trivial = h.not_trivial; running = g.running e.number h.running }

pub entries_grow : {p : Program} {u w : World} (raised : Option Value) (s : Entries) → Grows u w → TypedEntries p u raised s → TypedEntries p w raised s
entries_grow {p = p} {u = u} {w = w} raised s g t = record {
  references = λ k d h. range_over p u w g.over (get_or (flat_map values_of (all_entries s)) k d) (t.references k d h);
  few = t.few;
  alone = t.alone;
  top = top_over p u w g raised s.top.kind s.top t.top;
  below = all_below_over p u w g.over s.top s.below (all_stay u w g.running (flat_map class_begun s.below)) t.below;
  one_each = t.one_each;
}

-- ---- a class is begun

pub differs : (p : Program) (w : World) (f : Entry) (c : ℕ) → Initialises p w f → at w (place.Init c) ≡ Idle → nat_eq c f.number ≡ false
differs p w f c h q = elim (cases_Bool (nat_eq c f.number)) [
  | inr e ↦ e
  | inl e ↦ absurd (let z : at w (place.Init c) ≡ Running = subst (λ (d : ℕ). at w (place.Init d) ≡ Running) (sym (eqb-true c f.number e)) h.running in let y : Idle ≡ Running = sym q ∙ z in cc)
]

-- each class that is being initialised is Running
pub running_in : (p : Program) (w : World) (a : Entry) (fs : List Entry) → AllBelow p w a fs → (c : ℕ) → at w (place.Init c) ≡ Idle → AllByRecursion (λ d. nat_eq c d ≡ false) (flat_map class_begun fs)
running_in p w a [] h c q = tt
running_in p w a (f ∷ fs) h c q = by f.kind a.kind h.0 (running_in p w f fs h.1 c q)
  where
    by : (i j : EntryKind) → IsBelow p w f i a j → AllByRecursion (λ d. nat_eq c d ≡ false) (flat_map class_begun fs) → AllByRecursion (λ d. nat_eq c d ≡ false) (elim i as (λ x. List ℕ) [ Absent ↦ [] | InMethod ↦ [] | InClass b ↦ f.number ∷ [] ] ++ flat_map class_begun fs)
    by (InClass b) j h r = (differs p w f c h.0 q, r)
    by _ j h r = r

pub whole : (s : Entries) → s.top.kind ≡ InMethod → all_entries s ≡ s.top ∷ s.below
whole s q = ap (λ (k : EntryKind). elim k as (λ x. List Entry) [ Absent ↦ s.below | InMethod ↦ s.top ∷ s.below | InClass b ↦ s.top ∷ s.below ]) q

pub not_full : (s : Entries) → is_full s ≡ false → all_entries s ≡ s.top ∷ s.below → length (s.top ∷ s.below) < entry_limit
not_full s f q =
    let h : nat_le entry_limit (length (s.top ∷ s.below)) ≡ false = subst (λ (es : List Entry). nat_le entry_limit (length es) ≡ false) q f in
    let n = leb-false entry_limit (length (s.top ∷ s.below)) h in omega arith

-- the entries, once the class c that is Idle is begun under the top frame
pub begun_typed : {p : Program} {w : World} {s : Entries} {i : Instr} (ty : IsTyped p) (r : Ready p w s i) (c : ℕ) → TypedEntries p w None s → is_full s ≡ false → is_trivial p c ≡ false → at w (place.Init c) ≡ Idle → c < length p.classes
    → TypedEntries p (put w (place.Init c) Running) None (with_entry (class_entry c) s)
begun_typed {p = p} {w = w} {s = s} ty r c t f n q i =
    let v = put w (place.Init c) Running in
    let g = grows_begin p w c in
    let e = entries_grow None s g t in
    let o = opened None s (subst (λ (x : EntryKind). IsEntry x) (sym r.kind) tt) e in
    let here : at v (place.Init c) ≡ Running = at_put_same w (place.Init c) Running refl in
    subst (λ (fs : List Entry). TypedEntries p v None (record { top = class_entry c; below = fs })) (sym (whole s r.kind))
    (closed None (class_entry c) tt (record { not_trivial = n; running = here }) tt tt (record {
      each = (subst (λ (k : EntryKind). IsBelow p v s.top k (stub (InClass false) c) (InClass false)) (sym r.kind) (subst (λ (k : EntryKind). IsTop p v None k s.top) r.kind e.top), e.below);
      range = (o.stack, o.locals, o.rest.range);
      few = not_full s f (whole s r.kind);
      apart = IsDistinct-cons nat_eq c (flat_map class_begun (s.top ∷ s.below)) (no_class (running_in p w s.top s.below t.below c q)) (subst (λ (es : List Entry). IsDistinct nat_eq (flat_map class_begun es)) (whole s r.kind) t.one_each);
    }))
  where
    no_class : AllByRecursion (λ d. nat_eq c d ≡ false) (flat_map class_begun s.below) → AllByRecursion (λ d. nat_eq c d ≡ false) (flat_map class_begun (s.top ∷ s.below))
    no_class h = subst (λ (k : EntryKind). AllByRecursion (λ d. nat_eq c d ≡ false) (elim k as (λ x. List ℕ) [ Absent ↦ [] | InMethod ↦ [] | InClass b ↦ s.top.number ∷ [] ] ++ flat_map class_begun s.below)) (sym r.kind) h
