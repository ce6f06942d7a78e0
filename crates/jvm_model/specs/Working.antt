-- What built-in methods work on, and the combinators of their rows.
use Rattle.std.specs.Prelude.{ℕ, ℤ, pos, negsuc, List, ◌∷◌, ◌++◌, length, ◌+◌, Bool, cond, codes, Option, Some, None}
use Rattle.jvm_model.specs.declared.values.{Value.Value, Value.TheVariants.Int, Value.TheVariants.Null, Value.TheVariants.Obj}
use Rattle.jvm_model.specs.declared.values.Location.TheVariants as place
use Rattle.jvm_model.specs.declared.{outcome.Own.Own, outcome.Next.TheVariants.Go, program.Program.Program}
use Rattle.jvm_model.specs.Access.{Access, done, write, make, spend}
use Rattle.jvm_model.specs.{Builtin.string_class, Narrow.narrow_int, Rows.Answer, Rows.answer}
use Rattle.jvm_model.specs.{Classes.blank, Classes.instance_head, Classes.next_place, Entries.Entries, Entries.with_stack, Entries.with_place}
use Rattle.std.specs.Ordering.{int_eq}

-- the entries, and what the test has of its own
pub record Working : Type 0 where
  pub entries : Entries
  pub own : Own

-- the operands of the calling frame, the last argument on top
abbrev pub operands : Working → List Value
operands s = s.entries.top.stack

abbrev pub with_operands : Working → List Value → Working
with_operands s vs = record s { entries = with_stack s.entries vs }

-- the call is over, and these are the operands then
abbrev pub answers : Program → Working → List Value → Access (Answer Working)
answers p s vs = let t = s.entries in done (answer Go (record s { entries = with_place (with_stack t vs) (next_place p t.top.number t.top.pc) }))

-- A new String of these units is made: its head and its text are written. What it costs, 1 and its length, is counted
-- before.
abbrev pub makes_text : Program → List ℕ → (ℕ → Access (Answer Working)) → Access (Answer Working)
makes_text p t k = make (blank p (instance_head string_class)) (λ o. write (place.Text o) t (k o))

-- the call answers a new String, and costs this besides
abbrev pub answers_text : Program → Working → List Value → ℕ → List ℕ → Access (Answer Working)
answers_text p s vs n t = spend (n + (1 + length t)) (makes_text p t (λ o. answers p s (Obj o ∷ vs)))

-- the same of a text that there may be, or null
abbrev pub answers_found : Program → Working → List Value → ℕ → Option (List ℕ) → Access (Answer Working)
answers_found p s vs n None = spend n (answers p s (Null ∷ vs))
answers_found p s vs n (Some t) = answers_text p s vs n t

-- these bytes are printed
abbrev pub printed : List ℕ → Working → Working
printed bytes s = record s { own = record s.own { output = s.own.output ++ bytes } }

-- the call prints these bytes, and costs as many
abbrev pub prints : Program → Working → List Value → List ℕ → Access (Answer Working)
prints p s vs bytes = spend (length bytes) (answers p (printed bytes s) vs)

-- arguments of the types boolean and char are narrowed
abbrev pub bit_of : ℤ → ℤ
bit_of n = narrow_int 90 n

abbrev pub char_of : ℤ → ℕ
char_of n = elim (narrow_int 67 n) as (λ z. ℕ) [ pos u ↦ u | negsuc u ↦ 0 ]

-- the texts `true` and `false` of a boolean
abbrev pub boolean_text : ℤ → List ℕ
boolean_text n = cond (int_eq (bit_of n) (pos 0)) (codes "false") (codes "true")

abbrev pub truth : Bool → Value
truth b = Int (cond b (pos 1) (pos 0))
