-- Raising a throwable: one step for each entry that is looked at (JVMS 2.10).
use Rattle.std.specs.Prelude.{ℕ, List, [], ◌∷◌, Bool, true, cond, ◌&&◌, nat_le, nat_lt, Option, Some, None}
use Rattle.jvm_model.specs.declared.{values.Value.Value, outcome.Next.TheVariants.Raise, program.Body.Body, program.Handler.Handler, program.Program.Program}
use Rattle.jvm_model.specs.declared.values.Location.TheVariants as place
use Rattle.jvm_model.specs.{Access.Access, Access.done, Access.read, Rows.Answer, Rows.answer, Rows.on_object, Rows.goes_to}
use Rattle.jvm_model.specs.{Classes.method_at, Classes.is_below, Entries.Entries, Entries.popped_entry, Kinds.class_of}

abbrev pub catches : Program → Option ℕ → ℕ → Bool
catches p None c = true
catches p (Some d) c = is_below p c d

abbrev pub handler_in : Program → List Handler → ℕ → ℕ → Option ℕ
handler_in p [] pc c = None
handler_in p (h ∷ hs) pc c = cond (nat_le h.from pc && (nat_lt pc h.to && catches p h.catches c)) (Some h.at) (handler_in p hs pc c)

abbrev pub handlers_of : Option Body → List Handler
handlers_of None = []
handlers_of (Some b) = b.handlers

-- the place of the first handler of the method whose range holds pc and whose class is c's or above it
unfoldable pub handler_for : Program → ℕ → ℕ → ℕ → Option ℕ
handler_for p m pc c = handler_in p (handlers_of (method_at p m).body) pc c

abbrev pub handled : Value → Entries → Option ℕ → Access (Answer Entries)
handled v s None = done (answer (Raise v) (popped_entry s))
handled v s (Some pc) = goes_to pc s (v ∷ [])

-- a throwable is raised into the method frame at the top: it's handled there, or the frame is popped
unfoldable pub row_raise : Program → Value → Entries → Access (Answer Entries)
row_raise p v s = on_object s v (λ o. read (place.Head o) (λ h. handled v s (handler_for p s.top.number s.top.pc (class_of h.kind))))
