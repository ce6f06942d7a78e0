-- The built-in methods of System, PrintStream, electric.Files and electric.Env.
use Rattle.std.specs.Prelude.{ℕ, pos, List, [], ◌∷◌, ◌++◌, length, ◌+◌, ◌*◌, ◌/◌, ◌%◌, ◌^◌, is_some, codes, Option, Some, None}
use Rattle.std.specs.{Int.w32, Int.cast_signed, Fmt.signed_decimal}
use Rattle.et_base.specs.{Numbers.add64, Quotes.utf8_of}
use Rattle.jvm_model.specs.declared.{values.Value.Value, library.Native.Native, program.Program.Program}
use Rattle.jvm_model.specs.declared.values.Value.TheVariants.{Int, Long, Null, Lit, Obj}
use Rattle.jvm_model.specs.declared.values.Location.TheVariants as place
use Rattle.jvm_model.specs.declared.library.Native.TheVariants as native
use Rattle.jvm_model.specs.{World.text_or_empty, Access.Access, Access.read, Access.write, Access.spend}
use Rattle.jvm_model.specs.Rows.{Answer, none_here, popping, on_int, on_long, on_reference, on_text}
use Rattle.jvm_model.specs.Working.{Working, operands, with_operands, answers, makes_text, answers_found, prints, char_of, boolean_text, truth}

-- what comes with the texts of one argument, of two arguments in order; a null one throws before any is read
abbrev pub one_text : Program → Working → (List ℕ → List Value → Access (Answer Working)) → Access (Answer Working)
one_text p s k = popping (operands s) (λ v vs. on_text p (with_operands s vs) v (λ t. k t vs))

abbrev pub two_texts : Program → Working → (List ℕ → List ℕ → List Value → Access (Answer Working)) → Access (Answer Working)
two_texts p s k = popping (operands s) (λ v vs. popping vs (λ u rest. on_reference (with_operands s rest) v (on_text p (with_operands s rest) u (λ a. on_text p (with_operands s rest) v (λ b. k a b rest)))))

-- the clock's next answer is one more, wrapped
abbrev pub ticked : Working → Working
ticked s = record s { own = record s.own { clock = add64 s.own.clock (pos 1) } }

-- the random word steps, modulo 2 ^ 64; its upper 32 bits are an int
abbrev pub stepped : ℕ → ℕ
stepped x = (x * 6364136223846793005 + 1442695040888963407) % 2 ^ 64

abbrev pub shuffled : Working → Working
shuffled s = record s { own = record s.own { random = stepped s.own.random } }

abbrev pub upper_int : ℕ → Value
upper_int x = Int (cast_signed w32 (x / 2 ^ 32))

-- a property is set or taken away, and its old text is answered; n units are written
abbrev pub changes_property : Program → Working → List Value → List ℕ → ℕ → Option (List ℕ) → Option (List ℕ) → Access (Answer Working)
changes_property p s vs name n new None = spend (length name + n) (write (place.Prop name) new (answers p s (Null ∷ vs)))
changes_property p s vs name n new (Some t) = spend (length name + (n + (1 + length t))) (write (place.Prop name) new (makes_text p t (λ o. answers p s (Obj o ∷ vs))))

unfoldable pub native_system : Program → Native → Working → Access (Answer Working)
native_system p native.SystemClock s = answers p (ticked s) (Long s.own.clock ∷ operands s)
native_system p native.SystemGetProperty s = one_text p s (λ name vs. read (place.Prop name) (λ c. answers_found p s vs (length name) c))
native_system p native.SystemSetProperty s = two_texts p s (λ name t vs. read (place.Prop name) (λ c. changes_property p s vs name (length t) (Some t) c))
native_system p native.SystemClearProperty s = one_text p s (λ name vs. read (place.Prop name) (λ c. changes_property p s vs name 0 None c))
native_system p _ s = none_here

-- null prints `null`
abbrev pub prints_string : Program → Working → List Value → List ℕ → Value → Access (Answer Working)
prints_string p s vs end (Int n) = none_here
prints_string p s vs end (Long n) = none_here
prints_string p s vs end Null = prints p s vs (codes "null" ++ end)
prints_string p s vs end (Lit n) = on_text p s (Lit n) (λ t. prints p s vs (utf8_of t ++ end))
prints_string p s vs end (Obj o) = on_text p s (Obj o) (λ t. prints p s vs (utf8_of t ++ end))

-- the argument and the stream below it
abbrev pub on_printed : Working → (Value → List Value → Access (Answer Working)) → Access (Answer Working)
on_printed s k = popping (operands s) (λ v vs. popping vs (λ r rest. k v rest))

abbrev pub line_feed : List ℕ
line_feed = 10 ∷ []

unfoldable pub native_print : Program → Native → Working → Access (Answer Working)
native_print p native.PrintString s = on_printed s (λ v vs. prints_string p s vs [] v)
native_print p native.PrintInt s = on_printed s (λ v vs. on_int v (λ n. prints p s vs (signed_decimal n)))
native_print p native.PrintLong s = on_printed s (λ v vs. on_long v (λ n. prints p s vs (signed_decimal n)))
native_print p native.PrintBoolean s = on_printed s (λ v vs. on_int v (λ n. prints p s vs (boolean_text n)))
native_print p native.PrintChar s = on_printed s (λ v vs. on_int v (λ n. prints p s vs (utf8_of (char_of n ∷ []))))
native_print p native.PrintlnString s = on_printed s (λ v vs. prints_string p s vs line_feed v)
native_print p native.PrintlnInt s = on_printed s (λ v vs. on_int v (λ n. prints p s vs (signed_decimal n ++ line_feed)))
native_print p native.PrintlnLong s = on_printed s (λ v vs. on_long v (λ n. prints p s vs (signed_decimal n ++ line_feed)))
native_print p native.PrintlnBoolean s = on_printed s (λ v vs. on_int v (λ n. prints p s vs (boolean_text n ++ line_feed)))
native_print p native.PrintlnChar s = on_printed s (λ v vs. on_int v (λ n. prints p s vs (utf8_of (char_of n ∷ []) ++ line_feed)))
native_print p native.Println s = popping (operands s) (λ r vs. prints p s vs line_feed)
native_print p _ s = none_here

-- a file that isn't there is appended to as an empty one
unfoldable pub native_files : Program → Native → Working → Access (Answer Working)
native_files p native.FilesRead s = one_text p s (λ name vs. read (place.File name) (λ c. answers_found p s vs (length name) c))
native_files p native.FilesWrite s = two_texts p s (λ name t vs. spend (length name + length t) (write (place.File name) (Some t) (answers p s vs)))
native_files p native.FilesAppend s = two_texts p s (λ name t vs. read (place.File name) (λ c. spend (length name + length t) (write (place.File name) (Some (text_or_empty c ++ t)) (answers p s vs))))
native_files p native.FilesDelete s = one_text p s (λ name vs. read (place.File name) (λ c. spend (length name) (write (place.File name) None (answers p s (truth (is_some c) ∷ vs)))))
native_files p native.FilesExists s = one_text p s (λ name vs. read (place.File name) (λ c. spend (length name) (answers p s (truth (is_some c) ∷ vs))))
native_files p _ s = none_here

unfoldable pub native_env : Program → Native → Working → Access (Answer Working)
native_env p native.EnvPrint s = popping (operands s) (λ v vs. on_int v (λ n. prints p s vs (signed_decimal n ++ line_feed)))
native_env p native.EnvRandom s = answers p (shuffled s) (upper_int (stepped s.own.random) ∷ operands s)
native_env p _ s = none_here
