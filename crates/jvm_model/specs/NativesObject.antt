-- The built-in methods of Object and of the throwables.
use Rattle.std.specs.Prelude.{ℕ, pos, List, [], ◌∷◌, length, ◌+◌, cond, nat_eq, codes}
use Rattle.std.specs.Fmt.{signed_decimal}
use Rattle.jvm_model.specs.declared.{values.Value.Value, library.Native.Native, program.Program.Program}
use Rattle.jvm_model.specs.declared.values.Value.TheVariants.{Int, Long, Null, Lit, Obj}
use Rattle.jvm_model.specs.declared.values.Location.TheVariants as place
use Rattle.jvm_model.specs.declared.library.Native.TheVariants as native
use Rattle.jvm_model.specs.Access.{Access, read, write, spend}
use Rattle.jvm_model.specs.{Builtin.message_field, Builtin.string_class, Kinds.class_of, RowsBranches.same_reference}
use Rattle.jvm_model.specs.Rows.{Answer, none_here, popping, on_int, on_long, on_object, with_kind}
use Rattle.jvm_model.specs.Working.{Working, operands, with_operands, answers, makes_text, char_of, boolean_text, truth}

-- equals is the same reference; hashCode is 0 (this project's)
unfoldable pub native_object : Program → Native → Working → Access (Answer Working)
native_object p native.ObjectInit s = popping (operands s) (λ r vs. answers p s vs)
native_object p native.ObjectEquals s = popping (operands s) (λ v vs. popping vs (λ r rest. answers p s (truth (same_reference r v) ∷ rest)))
native_object p native.ObjectHashCode s = popping (operands s) (λ r vs. answers p s (Int (pos 0) ∷ vs))
native_object p _ s = none_here

-- the message of a throwable is written
abbrev pub sets_message : Program → Working → List Value → ℕ → Value → Access (Answer Working)
sets_message p s vs o v = write (place.Field o message_field) v (answers p s vs)

-- a new String of this text is the message
abbrev pub makes_message : Program → Working → List Value → Value → List ℕ → Access (Answer Working)
makes_message p s vs r t = on_object (with_operands s vs) r (λ o. spend (1 + length t) (makes_text p t (λ m. sets_message p s vs o (Obj m))))

-- a String argument is the message; where the argument is another object, no message is written (this project's)
abbrev pub keeps_string : Program → Working → List Value → Value → Value → ℕ → Access (Answer Working)
keeps_string p s vs r v c = cond (nat_eq c string_class) (on_object (with_operands s vs) r (λ o. sets_message p s vs o v)) (answers p s vs)

-- null is the text `null`
abbrev pub keeps_object : Program → Working → List Value → Value → Value → Access (Answer Working)
keeps_object p s vs r (Int n) = none_here
keeps_object p s vs r (Long n) = none_here
keeps_object p s vs r Null = makes_message p s vs r (codes "null")
keeps_object p s vs r (Lit n) = with_kind (Lit n) (λ x. keeps_string p s vs r (Lit n) (class_of x))
keeps_object p s vs r (Obj o) = with_kind (Obj o) (λ x. keeps_string p s vs r (Obj o) (class_of x))

unfoldable pub native_throwable : Program → Native → Working → Access (Answer Working)
native_throwable p native.ThrowableInit s = popping (operands s) (λ r vs. answers p s vs)
native_throwable p native.ThrowableInitString s = popping (operands s) (λ v vs. popping vs (λ r rest. on_object (with_operands s rest) r (λ o. sets_message p s rest o v)))
native_throwable p native.ThrowableGetMessage s = popping (operands s) (λ r vs. on_object (with_operands s vs) r (λ o. read (place.Field o message_field) (λ v. answers p s (v ∷ vs))))
native_throwable p native.AssertionInitObject s = popping (operands s) (λ v vs. popping vs (λ r rest. keeps_object p s rest r v))
native_throwable p native.AssertionInitInt s = popping (operands s) (λ v vs. popping vs (λ r rest. on_int v (λ n. makes_message p s rest r (signed_decimal n))))
native_throwable p native.AssertionInitLong s = popping (operands s) (λ v vs. popping vs (λ r rest. on_long v (λ n. makes_message p s rest r (signed_decimal n))))
native_throwable p native.AssertionInitBoolean s = popping (operands s) (λ v vs. popping vs (λ r rest. on_int v (λ n. makes_message p s rest r (boolean_text n))))
native_throwable p native.AssertionInitChar s = popping (operands s) (λ v vs. popping vs (λ r rest. on_int v (λ n. makes_message p s rest r (char_of n ∷ []))))
native_throwable p _ s = none_here
