-- Steps on an initialisation entry (JVMS 5.5; the order is this project's).
use Rattle.std.specs.Prelude.{ℕ, List, [], ◌∷◌, ◌++◌, map, filter, ◌+◌, Bool, true, false, not, ◌&&◌, cond, Option, Some, None}
use Rattle.jvm_model.specs.declared.values.{Value.Value, Value.TheVariants.Obj, InitState.InitState}
use Rattle.jvm_model.specs.declared.values.InitState.TheVariants.{Idle, Running, Done, Erroneous}
use Rattle.jvm_model.specs.declared.values.Location.TheVariants as place
use Rattle.jvm_model.specs.declared.outcome.{Next.Next, Next.TheVariants.Go, Next.TheVariants.Raise, Next.TheVariants.Leave}
use Rattle.jvm_model.specs.declared.program.{Body.Body, Program.Program}
use Rattle.jvm_model.specs.declared.state.{EntryKind.EntryKind, EntryKind.TheVariants.Absent, EntryKind.TheVariants.InMethod, EntryKind.TheVariants.InClass}
use Rattle.jvm_model.specs.Access.{Access, done, read, write, make, spend}
use Rattle.jvm_model.specs.{Builtin.error_class, Builtin.initializer_error, Builtin.no_class_error, Builtin.stack_overflow_error, Kinds.class_of}
use Rattle.jvm_model.specs.Classes.{class_at, method_at, is_interface, is_below, is_trivial, default_interfaces, blank, instance_head}
use Rattle.jvm_model.specs.Entries.{Entries, with_entry, class_entry, frame_of, frame_cost, is_full, popped_entry}
use Rattle.jvm_model.specs.Rows.{Answer, answer, none_here, faults, on_object}

-- A class or interface that is initialised before another, and what it costs to look at its state: 1 for a default
-- interface.
pub record Part : Type 0 where
  pub class : ℕ
  pub price : ℕ

abbrev pub superclass_part : Option ℕ → List Part
superclass_part None = []
superclass_part (Some d) = record { class = d; price = 0 } ∷ []

-- the superclass and then the default interfaces of a class, trivial ones left aside; nothing for an interface
unfoldable pub parts_of : Program → ℕ → List Part
parts_of p c = cond (is_interface (class_at p c).flags) []
    (filter (λ x. not (is_trivial p x.class)) (superclass_part (class_at p c).superclass ++ map (λ i. record { class = i; price = 1 }) (default_interfaces p c)))

-- the entry at the top, its `<clinit>` entered or none to enter
abbrev pub with_entered : Entries → Entries
with_entered s = record s { top = record s.top { kind = InClass true } }

abbrev pub starts_body : Option Body → ℕ → ℕ → Entries → Access (Answer Entries)
starts_body None m n s = none_here
starts_body (Some b) m n s = cond (is_full s) (spend n (faults stack_overflow_error s)) (spend (n + frame_cost b) (done (answer Go (with_entry (frame_of b m []) (with_entered s)))))

-- `<clinit>` is entered, where there is one; n is the price so far
abbrev pub starts : Program → Option ℕ → ℕ → Entries → Access (Answer Entries)
starts p None n s = spend n (done (answer Go (with_entered s)))
starts p (Some m) n s = starts_body (method_at p m).body m n s

-- what follows from the state of a part; the rest are the later ones
abbrev pub looked_at : ℕ → ℕ → Entries → Access (Answer Entries) → InitState → Access (Answer Entries)
looked_at c n s rest Idle = cond (is_full s) (spend n (faults stack_overflow_error s)) (spend n (write (place.Init c) Running (done (answer Go (with_entry (class_entry c) s)))))
looked_at c n s rest Running = rest
looked_at c n s rest Done = rest
looked_at c n s rest Erroneous = spend n (faults no_class_error s)

-- the states of the parts are read up to the first that is Idle or Erroneous
abbrev pub looks : Program → List Part → ℕ → Entries → Access (Answer Entries)
looks p [] n s = starts p (class_at p s.top.number).initialiser n s
looks p (x ∷ xs) n s = read (place.Init x.class) (λ st. looked_at x.class (n + x.price) s (looks p xs (n + x.price) s) st)

-- where no entry is left the driver goes on
abbrev pub left_at : EntryKind → Next
left_at Absent = Leave
left_at InMethod = Go
left_at (InClass b) = Go

abbrev pub finished : Entries → Access (Answer Entries)
finished s = write (place.Init s.top.number) Done (done (answer (left_at (popped_entry s).top.kind) (popped_entry s)))

abbrev pub finishing : EntryKind → Program → Entries → Access (Answer Entries)
finishing Absent p s = none_here
finishing InMethod p s = none_here
finishing (InClass false) p s = looks p (parts_of p s.top.number) 0 s
finishing (InClass true) p s = finished s

-- a step on the initialisation entry at the top
unfoldable pub row_finish : Program → Entries → Access (Answer Entries)
row_finish p s = finishing s.top.kind p s

-- the class is Erroneous, and the throwable is raised into the entry below
abbrev pub fails : Value → Entries → Access (Answer Entries)
fails v s = write (place.Init s.top.number) Erroneous (done (answer (Raise v) (popped_entry s)))

-- the same with a new ExceptionInInitializerError in its place
abbrev pub fails_anew : Program → Entries → Access (Answer Entries)
fails_anew p s = spend 2 (write (place.Init s.top.number) Erroneous (make (blank p (instance_head initializer_error)) (λ o. done (answer (Raise (Obj o)) (popped_entry s)))))

abbrev pub was_entered : EntryKind → Bool
was_entered Absent = false
was_entered InMethod = false
was_entered (InClass b) = b

-- A throwable is raised into the initialisation entry at the top. What `<clinit>` threw and is no Error has a new
-- throwable in its place.
unfoldable pub row_fail : Program → Value → Entries → Access (Answer Entries)
row_fail p v s = on_object s v (λ o. read (place.Head o) (λ h. cond (was_entered s.top.kind && not (is_below p (class_of h.kind) error_class)) (fails_anew p s) (fails v s)))
