-- A hushed class with its parts, from its entry to its end: the machine comes back to the state at which the class was needed, and
-- the world has changed in states of hushed classes and in what their initialisers leave, and nowhere else.
use Rattle.std.proofs.Common.{◌≡◌, ◌≢◌, ◌⊎◌, ℕ, suc, ◌+◌, List, [], ◌∷◌, ◌++◌, length, get_or, Bool, true, false, cond, nat_eq, Option, Some, None, refl, sym, ◌∙◌, ap, subst, inl, inr, append-nil, append_assoc}
use Rattle.std.proofs.lemmas.Bool.{cases_Bool, eqb-true, eq-eqb}
use Rattle.jvm_model.specs.declared.values.{Value.TheVariants.Obj, Head.Head, InitState.InitState}
use Rattle.jvm_model.specs.declared.values.InitState.TheVariants.{Idle, Running, Done, Erroneous}
use Rattle.jvm_model.specs.declared.values.Location.TheVariants as place
use Rattle.jvm_model.specs.declared.{outcome.Next.TheVariants.Go, outcome.Next.TheVariants.Fault, state.EntryKind.EntryKind}
use Rattle.jvm_model.specs.declared.{state.EntryKind.TheVariants.InMethod, state.EntryKind.TheVariants.InClass, program.Body.Body, program.Program.Program}
use Rattle.jvm_model.specs.{Builtin.stack_overflow_error, Kinds.class_of, Linked.IsBody, Step.after_row, Suite.opening, Throwing.throws}
use Rattle.jvm_model.specs.World.{World, size, at, put, object_at, make_object}
use Rattle.jvm_model.specs.Access.{Access, done, write, spend, Ran, run}
use Rattle.jvm_model.specs.{Reached.thrown_after, Reached.thrown_itself, Reached.Overflows, Rows.Answer, Rows.answer, Rows.faults}
use Rattle.jvm_model.specs.Classes.{class_at, field_at, method_at, is_trivial, blank, instance_head}
use Rattle.jvm_model.specs.Entries.{Entries, all_entries, entries_of, frame_of, frame_cost, class_entry, with_entry, is_full, popped_entry}
use Rattle.jvm_model.specs.Initialise.{Part, parts_of, with_entered, starts_body, starts, looked_at, looks, finishing, row_finish}
use Rattle.jvm_model.specs.State.{State, Turn, next, raised_in, with_entries}
use Rattle.jvm_model.proofs.{Binds.run_bind, Steps.step_finishes, Locations.at_put_same, Locations.at_put_other, Locations.same_false, Locations.at_make_new}
use Rattle.quiet_init.specs.Quiet.{is_still, begun_world, left_by, left_by_start, quiet}
use Rattle.quiet_init.specs.StillLaw.{Leads, there, one_more, HaveRows, HasOwn, OwnAlone}
use Rattle.quiet_init.proofs.Still.{Twin, rows_alike, alone_itself}
use Rattle.quiet_init.proofs.Started.{leads_then, IsStarted, AreStarted, Looked, passed, goes, quiet_ends}

abbrev pub Among : Part → List Part → Type 0
Among x [] = ⊥
Among x (y ∷ ys) = (x ≡ y) ⊎ Among x ys

-- a class without an initialiser, or with still code that has its rows
pub data Start (p : Program) (c : ℕ) : Type 0 where
  none : (class_at p c).initialiser ≡ None → Start p c
  still : (m : ℕ) (b : Body) → (class_at p c).initialiser ≡ Some m → (method_at p m).body ≡ Some b → is_still p c b.code ≡ true → IsBody b → HaveRows p b.code (entries_of (frame_of b m [] ∷ [])) (begun_world p c) → Start p c

-- The class isn't trivial, and is so without quiet initialisers; it starts so, and so does all that is initialised before it.
pub data Hushed (p : Program) : ℕ → Type 0 where
  hushed : {c : ℕ} → is_trivial p c ≡ false → is_trivial (quiet p) c ≡ true → Start p c → ((x : Part) → Among x (parts_of p c) → Hushed p x.class) → Hushed p c

-- Hushed classes that are Idle have their opening values, and none is Erroneous.
pub record Fresh (p : Program) (w : World) : Type 0 where
  pub opened : (d : ℕ) → Hushed p d → at w (place.Init d) ≡ Idle → HasOwn p d (begun_world p d) w
  pub sound : (d : ℕ) → Hushed p d → at w (place.Init d) ≡ Erroneous → ⊥

-- From the one world to the other some hushed classes that were Idle became Done, with what their initialisers leave; else nothing
-- changed.
pub record Went (p : Program) (w v : World) : Type 0 where
  pub objects : v.objects ≡ w.objects
  pub files : v.files ≡ w.files
  pub props : v.props ≡ w.props
  pub states : (d : ℕ) → (at v (place.Init d) ≡ at w (place.Init d)) ⊎ (Hushed p d × (at w (place.Init d) ≡ Idle) × (at v (place.Init d) ≡ Done))
  pub kept : (f : ℕ) → at v (place.Init (field_at p f).class) ≡ at w (place.Init (field_at p f).class) → at v (place.Static f) ≡ at w (place.Static f)
  pub left : (d : ℕ) → at w (place.Init d) ≡ Idle → at v (place.Init d) ≡ Done → HasOwn p d (left_by p d) v

went_itself : (p : Program) (w : World) → Went p w w
went_itself p w = record { objects = refl; files = refl; props = refl; states = λ d. inl refl; kept = λ f e. refl; left = λ d e g. absurd (let z = sym e ∙ g in cc) }

module _ (p : Program) (w v x : World) (a : Went p w v) (b : Went p v x) where
  went_states : (d : ℕ) → (at x (place.Init d) ≡ at w (place.Init d)) ⊎ (Hushed p d × (at w (place.Init d) ≡ Idle) × (at x (place.Init d) ≡ Done))
  went_states d = elim (a.states d) [
    | inl e ↦ elim (b.states d) [ inl g ↦ inl (g ∙ e) | inr g ↦ inr (g.0, sym e ∙ g.1, g.2) ]
    | inr e ↦ elim (b.states d) [ inl g ↦ inr (e.0, e.1, g ∙ e.2) | inr g ↦ absurd (let z = sym e.2 ∙ g.1 in cc) ]
  ]

  went_kept : (f : ℕ) → at x (place.Init (field_at p f).class) ≡ at w (place.Init (field_at p f).class) → at x (place.Static f) ≡ at w (place.Static f)
  went_kept f e = elim (a.states (field_at p f).class) [
    | inl g ↦ b.kept f (e ∙ sym g) ∙ a.kept f g
    | inr g ↦ elim (b.states (field_at p f).class) [
      | inl h ↦ absurd (let z = sym g.1 ∙ (sym e ∙ (h ∙ g.2)) in cc)
      | inr h ↦ absurd (let z = sym g.2 ∙ h.1 in cc)
    ]
  ]

  went_left : (d : ℕ) → at w (place.Init d) ≡ Idle → at x (place.Init d) ≡ Done → HasOwn p d (left_by p d) x
  went_left d i e = elim (a.states d) [
    | inl g ↦ b.left d (g ∙ i) e
    | inr g ↦ λ f q. b.kept f (subst (λ (z : ℕ). at x (place.Init z) ≡ at v (place.Init z)) (sym q) (e ∙ sym g.2)) ∙ a.left d i g.2 f q
  ]

  pub went_then : Went p w x
  went_then = record { objects = b.objects ∙ a.objects; files = b.files ∙ a.files; props = b.props ∙ a.props; states = went_states; kept = went_kept; left = went_left }

pub fresh_later : (p : Program) (w v : World) → Fresh p w → Went p w v → Fresh p v
fresh_later p w v fr a = record {
  opened = λ d h e f q. elim (a.states d) [
    | inl g ↦ a.kept f (subst (λ (z : ℕ). at v (place.Init z) ≡ at w (place.Init z)) (sym q) g) ∙ fr.opened d h (sym g ∙ e) f q
    | inr g ↦ absurd (let z = sym g.2 ∙ e in cc)
  ];
  sound = λ d h e. elim (a.states d) [
    | inl g ↦ fr.sound d h (sym g ∙ e)
    | inr g ↦ absurd (let z = sym g.2 ∙ e in cc)
  ];
}

-- the state of a class, where that of one class was set
abbrev pub IsMark : World → ℕ → InitState → ℕ → Type 0
IsMark w c st d = ((d ≡ c) × (at (put w (place.Init c) st) (place.Init d) ≡ st)) ⊎ ((d ≢ c) × (at (put w (place.Init c) st) (place.Init d) ≡ at w (place.Init d)))

mark : (w : World) (c : ℕ) (st : InitState) (d : ℕ) → IsMark w c st d
mark w c st d = elim (cases_Bool (nat_eq d c)) [
  | inl e ↦ let q = eqb-true d c e in inl (q, subst (λ (z : ℕ). at (put w (place.Init c) st) (place.Init z) ≡ st) (sym q) (at_put_same w (place.Init c) st refl))
  | inr e ↦ inr ((λ q. absurd (let z : true ≡ false = sym (eq-eqb d c q) ∙ e in cc)), at_put_other w (place.Init c) (place.Init d) st (same_false (place.Init d) (place.Init c) e))
]

fresh_begun : (p : Program) (w : World) (c : ℕ) → Fresh p w → Fresh p (put w (place.Init c) Running)
fresh_begun p w c fr = record {
  opened = λ d h e f q. elim (mark w c Running d) [
    | inl m ↦ absurd (let z = sym m.1 ∙ e in cc)
    | inr m ↦ fr.opened d h (sym m.1 ∙ e) f q
  ];
  sound = λ d h e. elim (mark w c Running d) [
    | inl m ↦ absurd (let z = sym m.1 ∙ e in cc)
    | inr m ↦ fr.sound d h (sym m.1 ∙ e)
  ];
}

-- The class itself, from the world in which it was needed over the one in which its parts are started to its end.
module _ (p : Program) (c : ℕ) (h : Hushed p c) (w w2 w3 : World) (idle : at w (place.Init c) ≡ Idle) (a : Went p (put w (place.Init c) Running) w2) (o : OwnAlone p c w2 w3) (l : HasOwn p c (left_by p c) w3) where
  all_states : (d : ℕ) → (at (put w3 (place.Init c) Done) (place.Init d) ≡ at w (place.Init d)) ⊎ (Hushed p d × (at w (place.Init d) ≡ Idle) × (at (put w3 (place.Init c) Done) (place.Init d) ≡ Done))
  all_states d = elim (mark w3 c Done d) [
    | inl m ↦ inr (subst (Hushed p) (sym m.0) h, ap (λ (z : ℕ). at w (place.Init z)) m.0 ∙ idle, m.1)
    | inr m ↦ elim (mark w c Running d) [
      | inl k ↦ absurd (m.0 k.0)
      | inr k ↦ let same : at (put w3 (place.Init c) Done) (place.Init d) ≡ at w2 (place.Init d) = m.1 ∙ ap (λ (z : List InitState). get_or z d Idle) o.states in elim (a.states d) [
        | inl e ↦ inl (same ∙ (e ∙ k.1))
        | inr e ↦ inr (e.0, sym k.1 ∙ e.1, same ∙ e.2)
      ]
    ]
  ]

  all_kept : (f : ℕ) → at (put w3 (place.Init c) Done) (place.Init (field_at p f).class) ≡ at w (place.Init (field_at p f).class) → at w3 (place.Static f) ≡ at w (place.Static f)
  all_kept f e = let d = (field_at p f).class in elim (mark w3 c Done d) [
    | inl m ↦ absurd (let z = sym m.1 ∙ (e ∙ (ap (λ (y : ℕ). at w (place.Init y)) m.0 ∙ idle)) in cc)
    | inr m ↦ elim (mark w c Running d) [
      | inl k ↦ absurd (m.0 k.0)
      | inr k ↦ o.statics f m.0 ∙ a.kept f (sym (m.1 ∙ ap (λ (z : List InitState). get_or z d Idle) o.states) ∙ (e ∙ sym k.1))
    ]
  ]

  all_left : (d : ℕ) → at w (place.Init d) ≡ Idle → at (put w3 (place.Init c) Done) (place.Init d) ≡ Done → (f : ℕ) → (field_at p f).class ≡ d → at w3 (place.Static f) ≡ at (left_by p d) (place.Static f)
  all_left d i e f q = elim (mark w3 c Done d) [
    | inl m ↦ subst (λ (z : ℕ). at w3 (place.Static f) ≡ at (left_by p z) (place.Static f)) (sym m.0) (l f (q ∙ m.0))
    | inr m ↦ elim (mark w c Running d) [
      | inl k ↦ absurd (m.0 k.0)
      | inr k ↦ o.statics f (λ z. m.0 (sym q ∙ z)) ∙ a.left d (k.1 ∙ i) (sym (m.1 ∙ ap (λ (z : List InitState). get_or z d Idle) o.states) ∙ e) f q
    ]
  ]

  pub all_went : Went p w (put w3 (place.Init c) Done)
  all_went = record { objects = o.objects ∙ a.objects; files = o.files ∙ a.files; props = o.props ∙ a.props; states = all_states; kept = all_kept; left = all_left }

-- ---- no push meets a full list

abbrev pub NoOverflow : Program → State → World → Type 0
NoOverflow p s w = (n : ℕ) (t : State) (v : World) → Leads p n s w t v → Overflows p t v → ⊥

no_later : (p : Program) (k : ℕ) (s t : State) (w v : World) → Leads p k s w t v → NoOverflow p s w → NoOverflow p t v
no_later p k s t w v l free n u x r o = free (k + n) u x (leads_then l r (k + n) refl) o

overflows : (p : Program) (s : State) (w : World) (b : Bool) → s.entries.top.kind ≡ InClass b → s.raised ≡ None → (run (row_finish p s.entries) w).value ≡ answer (Fault stack_overflow_error) s.entries → (run (row_finish p s.entries) w).world ≡ w → Overflows p s w
unfolding thrown_itself throws blank
overflows p s w b k n f g =
    let es = s.entries in
    let x = blank p (instance_head stack_overflow_error) in
    let r = run (row_finish p es) w in
    ap (λ (a : Access Turn). thrown_after (size w) (run a w).value (run a w).world) (step_finishes p s b k n)
    ∙ (ap (λ (y : Ran Turn). thrown_after (size w) y.value y.world) (run_bind (row_finish p es) (after_row p s) w)
    ∙ (ap (λ (y : Answer Entries). let q = run (after_row p s y) r.world in thrown_after (size w) q.value q.world) f
    ∙ (ap (λ (y : World). let q = run (throws p stack_overflow_error (with_entries s es)) y in thrown_after (size w) q.value q.world) g
    ∙ (ap (λ (y : EntryKind). thrown_after (size w) (next (raised_in y (Obj (size w)) (with_entries s es))) (make_object w x)) k
    ∙ (ap (λ (y : Bool). cond y (Some (class_of (object_at (make_object w x) (size w)).head.kind)) None) (eq-eqb (size w) (size w) refl)
    ∙ ap (λ (y : Head). Some (class_of y.kind)) (at_make_new w x (place.Head (size w)) refl))))))

-- ---- the parts of a class, one after the other

-- the entry of a class goes on top; nothing is raised
abbrev pub pushed : ℕ → State → State
pushed c s = record s { entries = with_entry (class_entry c) s.entries; raised = None }

abbrev pub resting : State → State
resting s = record s { raised = None }

-- the entries are what popping a new one leaves
abbrev pub IsWhole : State → Type 0
IsWhole s = entries_of (all_entries s.entries) ≡ s.entries

-- A class was needed at the state s in the world w; the machine comes back to s in another world, in which the class is Done.
pub record Going (p : Program) (c : ℕ) (s : State) (w : World) : Type 0 where
  pub steps : ℕ
  pub world : World
  pub leads : Leads p steps (pushed c s) (put w (place.Init c) Running) (resting s) world
  pub went : Went p w world
  pub is_done : at world (place.Init c) ≡ Done

abbrev pub Goes : Program → ℕ → Type 0
Goes p c = (s : State) (w : World) → IsWhole s → Fresh p w → at w (place.Init c) ≡ Idle → NoOverflow p (pushed c s) (put w (place.Init c) Running) → Going p c s w

-- all parts of the class at the top are started, and nothing else was done
pub record PartsDone (p : Program) (c : ℕ) (s : State) (w : World) : Type 0 where
  pub steps : ℕ
  pub world : World
  pub leads : Leads p steps (resting s) w (resting s) world
  pub went : Went p w world
  pub started : AreStarted world (parts_of p c)

started_later : (p : Program) (w v : World) → Went p w v → (xs : List Part) → AreStarted w xs → AreStarted v xs
started_later p w v a [] h = tt
started_later p w v a (x ∷ xs) h = (
  elim (a.states x.class) [
    | inl e ↦ elim h.0 [ inl g ↦ inl (e ∙ g) | inr g ↦ inr (e ∙ g) ]
    | inr e ↦ inl e.2
  ],
  started_later p w v a xs h.1,
)

started_more : (w : World) (xs : List Part) (x : Part) → AreStarted w xs → IsStarted w x → AreStarted w (xs ++ (x ∷ []))
started_more w [] x h g = (g, tt)
started_more w (y ∷ xs) x h g = (h.0, started_more w xs x h.1 g)

among : (xs : List Part) (y : Part) (ys : List Part) → Among y (xs ++ (y ∷ ys))
among [] y ys = inl refl
among (x ∷ xs) y ys = inr (among xs y ys)

module _ (p : Program) (c : ℕ) where
  -- how the step on its entry ends at a part that is Idle
  at_idle : (xs : List Part) (y : Part) (ys : List Part) → parts_of p c ≡ xs ++ (y ∷ ys) → (s : State) (w : World) → s.entries.top.kind ≡ InClass false → s.entries.top.number ≡ c → AreStarted w xs → at w (place.Init y.class) ≡ Idle →
      (n : ℕ) × (rest : Access (Answer Entries)) × Looked (run (row_finish p s.entries) w) (run (looked_at y.class n s.entries rest Idle) w)
  unfolding row_finish
  at_idle xs y ys e s w k n st i =
      let r = passed p s.entries w xs (y ∷ ys) 0 st in
      let m = r.0 + y.price in
      let rest = looks p ys m s.entries in
      let z = ap (λ (q : EntryKind). run (finishing q p s.entries) w) k ∙ (ap (λ (q : ℕ). run (looks p (parts_of p q) 0 s.entries) w) n ∙ ap (λ (q : List Part). run (looks p q 0 s.entries) w) e) in
      let j = ap (λ (q : InitState). run (looked_at y.class m s.entries rest q) w) i in (
        m,
        rest,
        record {
          value = ap (λ (q : Ran (Answer Entries)). q.value) z ∙ (r.1.value ∙ ap (λ (q : Ran (Answer Entries)). q.value) j);
          world = ap (λ (q : Ran (Answer Entries)). q.world) z ∙ (r.1.world ∙ ap (λ (q : Ran (Answer Entries)). q.world) j);
        },
      )

  -- a part that is Idle is begun
  begins : (y : Part) (s : State) (w : World) → s.entries.top.kind ≡ InClass false → s.raised ≡ None → NoOverflow p s w → (n : ℕ) (rest : Access (Answer Entries)) → Looked (run (row_finish p s.entries) w) (run (looked_at y.class n s.entries rest Idle) w) →
      Leads p 1 s w (pushed y.class s) (put w (place.Init y.class) Running)
  begins y s w k r free n rest l = elim (cases_Bool (is_full s.entries)) [
    | inl f ↦ absurd (free 0 s w there (overflows p s w false k r (l.value ∙ ap (λ (b : Bool). (run (cond b (spend n (faults stack_overflow_error s.entries)) (spend n (write (place.Init y.class) Running (done (answer Go (with_entry (class_entry y.class) s.entries)))))) w).value) f)
        (l.world ∙ ap (λ (b : Bool). (run (cond b (spend n (faults stack_overflow_error s.entries)) (spend n (write (place.Init y.class) Running (done (answer Go (with_entry (class_entry y.class) s.entries)))))) w).world) f)))
    | inr f ↦ let g = goes p s w false InMethod (with_entry (class_entry y.class) s.entries) (put w (place.Init y.class) Running) k r
        (l.value ∙ ap (λ (b : Bool). (run (cond b (spend n (faults stack_overflow_error s.entries)) (spend n (write (place.Init y.class) Running (done (answer Go (with_entry (class_entry y.class) s.entries)))))) w).value) f)
        (l.world ∙ ap (λ (b : Bool). (run (cond b (spend n (faults stack_overflow_error s.entries)) (spend n (write (place.Init y.class) Running (done (answer Go (with_entry (class_entry y.class) s.entries)))))) w).world) f) in
        one_more g.turn_is (subst (λ (z : World). Leads p 0 (pushed y.class s) z (pushed y.class s) (put w (place.Init y.class) Running)) (sym g.world_is) there)
  ]

  parts_done : ((x : Part) → Among x (parts_of p c) → Goes p x.class) → ((x : Part) → Among x (parts_of p c) → Hushed p x.class) → (xs ys : List Part) → parts_of p c ≡ xs ++ ys → (s : State) (w : World) →
      s.entries.top.kind ≡ InClass false → s.entries.top.number ≡ c → IsWhole s → Fresh p w → NoOverflow p (resting s) w → AreStarted w xs → PartsDone p c s w
  parts_done go hush xs [] e s w k n wh fr free st = record { steps = 0; world = w; leads = there; went = went_itself p w; started = subst (λ (z : List Part). AreStarted w z) (sym (e ∙ append-nil xs)) st }
  parts_done go hush xs (y ∷ ys) e s w k n wh fr free st = by (at w (place.Init y.class)) refl
      (λ v. parts_done go hush (xs ++ (y ∷ [])) ys (e ∙ sym (append_assoc xs (y ∷ []) ys)) s v k n wh)
    where
      is_part : Among y (parts_of p c)
      is_part = subst (λ (z : List Part). Among y z) (sym e) (among xs y ys)

      by : (q : InitState) → at w (place.Init y.class) ≡ q → ((v : World) → Fresh p v → NoOverflow p (resting s) v → AreStarted v (xs ++ (y ∷ [])) → PartsDone p c s v) → PartsDone p c s w
      by Done q more = more w fr free (started_more w xs y st (inl q))
      by Running q more = more w fr free (started_more w xs y st (inr q))
      by Erroneous q more = absurd (fr.sound y.class (hush y is_part) q)
      by Idle q more =
          let i = at_idle xs y ys e (resting s) w k n st q in
          let b = begins y (resting s) w k refl free i.0 i.1 i.2 in
          let g = go y is_part (resting s) w wh fr q (no_later p 1 (resting s) (pushed y.class s) w (put w (place.Init y.class) Running) b free) in
          let l = leads_then b g.leads (1 + g.steps) refl in
          let r = more g.world (fresh_later p w g.world fr g.went) (no_later p (1 + g.steps) (resting s) (resting s) w g.world l free) (started_more g.world xs y (started_later p w g.world g.went xs st) (inl g.is_done)) in
          record { steps = (1 + g.steps) + r.steps; world = r.world; leads = leads_then l r.leads ((1 + g.steps) + r.steps) refl; went = went_then p w g.world r.world g.went r.went; started = r.started }

-- ---- the class itself

module _ (p : Program) (c : ℕ) (nt : is_trivial p c ≡ false) (h : Hushed p c) (s : State) (w : World) (wh : IsWhole s) (fr : Fresh p w) (idle : at w (place.Init c) ≡ Idle)
    (free : NoOverflow p (pushed c s) (put w (place.Init c) Running)) (pd : PartsDone p c (pushed c s) (put w (place.Init c) Running)) where
  -- the class is being initialised still, and its statics are as they were
  running : at pd.world (place.Init c) ≡ Running
  running = elim (pd.went.states c) [
    | inl e ↦ e ∙ at_put_same w (place.Init c) Running refl
    | inr e ↦ absurd (let z = sym (at_put_same w (place.Init c) Running refl) ∙ e.1 in cc)
  ]

  own : HasOwn p c (begun_world p c) pd.world
  own f q = pd.went.kept f (subst (λ (z : ℕ). at pd.world (place.Init z) ≡ at (put w (place.Init c) Running) (place.Init z)) (sym q) (running ∙ sym (at_put_same w (place.Init c) Running refl))) ∙ fr.opened c h idle f q

  -- how the step on its entry ends, all parts started
  at_start : (n : ℕ) × Looked (run (row_finish p (pushed c s).entries) pd.world) (run (starts p (class_at p c).initialiser n (pushed c s).entries) pd.world)
  unfolding row_finish
  at_start = let r = passed p (pushed c s).entries pd.world (parts_of p c) [] 0 pd.started in
      (r.0, subst (λ (z : List Part). Looked (run (looks p z 0 (pushed c s).entries) pd.world) (run (starts p (class_at p c).initialiser r.0 (pushed c s).entries) pd.world)) (append-nil (parts_of p c)) r.1)

  -- no `<clinit>` is to be entered
  without : (class_at p c).initialiser ≡ None → Leads p 2 (pushed c s) pd.world (record s { entries = entries_of (all_entries s.entries); raised = None }) (put pd.world (place.Init c) Done)
  unfolding row_finish
  without e =
      let i = at_start in
      let t = with_entered (pushed c s).entries in
      let g = goes p (pushed c s) pd.world false InMethod t pd.world refl refl (i.1.value ∙ ap (λ (o : Option ℕ). (run (starts p o i.0 (pushed c s).entries) pd.world).value) e) (i.1.world ∙ ap (λ (o : Option ℕ). (run (starts p o i.0 (pushed c s).entries) pd.world).world) e) in
      let s2 = with_entries (pushed c s) t in
      let last = goes p s2 pd.world true (popped_entry s2.entries).top.kind (entries_of (all_entries s.entries)) (put pd.world (place.Init c) Done) refl refl refl refl in
      let end : State = record s { entries = entries_of (all_entries s.entries); raised = None } in
      one_more g.turn_is (subst (λ (z : World). Leads p 1 s2 z end (put pd.world (place.Init c) Done)) (sym g.world_is)
      (one_more last.turn_is (subst (λ (z : World). Leads p 0 end z end (put pd.world (place.Init c) Done)) (sym last.world_is) there)))

  -- there is room for its frame
  has_room : (m : ℕ) (b : Body) → (class_at p c).initialiser ≡ Some m → (method_at p m).body ≡ Some b → is_full (pushed c s).entries ≡ false
  has_room m b hi hb = elim (cases_Bool (is_full (pushed c s).entries)) [
    | inr f ↦ f
    | inl f ↦ absurd (let i = at_start in
        let es = (pushed c s).entries in
        let z = ap (λ (o : Option ℕ). run (starts p o i.0 es) pd.world) hi ∙ (ap (λ (o : Option Body). run (starts_body o m i.0 es) pd.world) hb
        ∙ ap (λ (q : Bool). run (cond q (spend i.0 (faults stack_overflow_error es)) (spend (i.0 + frame_cost b) (done (answer Go (with_entry (frame_of b m []) (with_entered es)))))) pd.world) f) in
        no_later p pd.steps (pushed c s) (pushed c s) (put w (place.Init c) Running) pd.world pd.leads free 0 (pushed c s) pd.world there
        (overflows p (pushed c s) pd.world false refl refl (i.1.value ∙ ap (λ (q : Ran (Answer Entries)). q.value) z) (i.1.world ∙ ap (λ (q : Ran (Answer Entries)). q.world) z)))
  ]

  back : (k : ℕ) (v : World) → Leads p k (pushed c s) pd.world (record s { entries = entries_of (all_entries s.entries); raised = None }) v → Leads p (pd.steps + k) (pushed c s) (put w (place.Init c) Running) (resting s) v
  back k v l = subst (λ (z : Entries). Leads p (pd.steps + k) (pushed c s) (put w (place.Init c) Running) (record s { entries = z; raised = None }) v) wh (leads_then pd.leads l (pd.steps + k) refl)

  ends : Start p c → Going p c s w
  unfolding left_by
  ends (none e) =
      let o = alone_itself p c pd.world in
      let l : HasOwn p c (left_by p c) pd.world = λ f q. own f q ∙ ap (λ (z : Option ℕ). at (left_by_start p c z) (place.Static f)) (sym e) in
      record {
        steps = pd.steps + 2;
        world = put pd.world (place.Init c) Done;
        leads = back 2 (put pd.world (place.Init c) Done) (without e);
        went = all_went p c h w pd.world pd.world idle pd.went o l;
        is_done = at_put_same pd.world (place.Init c) Done refl;
      }
  ends (still m b hi hb hs body rows) =
      let bs = (with_entered (pushed c s).entries).top ∷ (pushed c s).entries.below in
      let tw : Twin p c (begun_world p c) pd.world = record { left = at_put_same (opening p) (place.Init c) Running refl; right = running; own = own } in
      let here = rows_alike p c nt bs b.code (entries_of (frame_of b m [] ∷ [])) (begun_world p c) pd.world hs tw rows in
      let r = quiet_ends p c m b (pushed c s) pd.world hi hb hs nt body refl refl refl (has_room m b hi hb) pd.started running own here in
      let k = suc (length b.code + 1) in
      record {
        steps = pd.steps + k;
        world = put r.before (place.Init c) Done;
        leads = back k (put r.before (place.Init c) Done) r.leads;
        went = all_went p c h w pd.world r.before idle pd.went r.alone r.own;
        is_done = at_put_same r.before (place.Init c) Done refl;
      }

-- Where a hushed class is needed that is Idle, the machine comes back to the same state once it is Done.
pub going : (p : Program) {c : ℕ} → Hushed p c → Goes p c
going p {c} (hushed nt tr st parts) s w wh fr idle free =
    let pd = parts_done p c (λ x i. going p (parts x i)) parts [] (parts_of p c) refl (pushed c s) (put w (place.Init c) Running) refl refl refl (fresh_begun p w c fr) free tt in
    ends p c nt (hushed nt tr st parts) s w wh fr idle free pd st
