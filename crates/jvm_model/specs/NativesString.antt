-- The built-in methods of String and StringBuilder.
use Rattle.std.specs.Prelude.{ℕ, ℤ, pos, negsuc, List, [], ◌∷◌, ◌++◌, length, get_or, take, drop, ◌+◌, ◌-◌, ◌*◌, false, ◌&&◌, cond, nat_eq, nat_lt, nat_le, codes}
use Rattle.std.specs.{Int.w32, Int.int_wrap, Fmt.signed_decimal, Str.bytes_eq}
use Rattle.et_base.specs.Numbers.{l2i}
use Rattle.jvm_model.specs.declared.{values.Value.Value, library.Native.Native, program.Program.Program}
use Rattle.jvm_model.specs.declared.values.Value.TheVariants.{Int, Long, Null, Lit, Obj}
use Rattle.jvm_model.specs.declared.values.Location.TheVariants as place
use Rattle.jvm_model.specs.declared.library.Native.TheVariants as native
use Rattle.jvm_model.specs.{Access.Access, Access.read, Access.write, Access.spend, Builtin.string_class, Builtin.string_index_exception, Kinds.class_of}
use Rattle.jvm_model.specs.Rows.{Answer, none_here, faults, popping, on_int, on_long, on_object, on_reference, on_text, with_kind}
use Rattle.jvm_model.specs.Working.{Working, operands, with_operands, answers, answers_text, char_of, boolean_text, truth}

-- a text's length as an int
abbrev pub length_int : List ℕ → Value
length_int t = Int (l2i (pos (length t)))

-- the sum of s[i] * 31 ^ (n - 1 - i), wrapped
abbrev pub hash_sum : ℕ → List ℕ → ℕ
hash_sum h [] = h
hash_sum h (u ∷ us) = hash_sum (h * 31 + u) us

unfoldable pub hash_of : List ℕ → ℤ
hash_of t = int_wrap w32 (pos (hash_sum 0 t))

-- what comes at a number from 0 up to but not n; another throws, with these operands
abbrev pub text_index : Working → ℤ → ℕ → (ℕ → Access (Answer Working)) → Access (Answer Working)
text_index s (pos i) n k = cond (nat_lt i n) (k i) (faults string_index_exception s)
text_index s (negsuc i) n k = faults string_index_exception s

-- the units from the first place up to but not the second; places out of range or in the wrong order throw
abbrev pub answers_part : Program → Working → List Value → List ℕ → ℤ → ℤ → Access (Answer Working)
answers_part p s vs t (pos a) (pos b) = cond (nat_le a b && nat_le b (length t)) (answers_text p s vs 0 (take (b - a) (drop a t))) (faults string_index_exception (with_operands s vs))
answers_part p s vs t _ _ = faults string_index_exception (with_operands s vs)

abbrev pub compares : Program → Working → List Value → Value → Value → ℕ → Access (Answer Working)
compares p s vs r v c = cond (nat_eq c string_class)
    (on_text p s r (λ t. on_text p s v (λ u. spend (length t) (answers p s (truth (bytes_eq t u) ∷ vs)))))
    (answers p s (truth false ∷ vs))

-- equals: the argument's head, and where it's a String both texts, the receiver's first
abbrev pub string_equals : Program → Working → List Value → Value → Value → Access (Answer Working)
string_equals p s vs r (Int n) = none_here
string_equals p s vs r (Long n) = none_here
string_equals p s vs r Null = answers p s (truth false ∷ vs)
string_equals p s vs r (Lit n) = with_kind (Lit n) (λ x. compares p s vs r (Lit n) (class_of x))
string_equals p s vs r (Obj o) = with_kind (Obj o) (λ x. compares p s vs r (Obj o) (class_of x))

-- concat: the receiver itself where the argument is empty
abbrev pub joined : Program → Working → List Value → Value → List ℕ → List ℕ → Access (Answer Working)
joined p s vs r t [] = answers p s (r ∷ vs)
joined p s vs r t (u ∷ us) = answers_text p s vs 0 (t ++ (u ∷ us))

unfoldable pub native_string : Program → Native → Working → Access (Answer Working)
native_string p native.StringLength s = popping (operands s) (λ r vs. on_text p (with_operands s vs) r (λ t. answers p s (length_int t ∷ vs)))
native_string p native.StringIsEmpty s = popping (operands s) (λ r vs. on_text p (with_operands s vs) r (λ t. answers p s (truth (nat_eq (length t) 0) ∷ vs)))
native_string p native.StringCharAt s = popping (operands s) (λ v vs. popping vs (λ r rest. on_int v (λ i. on_text p (with_operands s rest) r (λ t.
    text_index (with_operands s rest) i (length t) (λ n. answers p s (Int (pos (get_or t n 0)) ∷ rest))))))
native_string p native.StringEquals s = popping (operands s) (λ v vs. popping vs (λ r rest. string_equals p s rest r v))
native_string p native.StringHashCode s = popping (operands s) (λ r vs. on_text p (with_operands s vs) r (λ t. spend (length t) (answers p s (Int (hash_of t) ∷ vs))))
native_string p native.StringSubstringFrom s = popping (operands s) (λ v vs. popping vs (λ r rest. on_int v (λ a. on_text p (with_operands s rest) r (λ t. answers_part p s rest t a (pos (length t))))))
native_string p native.StringSubstring s = popping (operands s) (λ u us. popping us (λ v vs. popping vs (λ r rest. on_int u (λ b. on_int v (λ a. on_text p (with_operands s rest) r (λ t. answers_part p s rest t a b))))))
native_string p native.StringConcat s = popping (operands s) (λ v vs. popping vs (λ r rest. on_reference (with_operands s rest) v (on_text p (with_operands s rest) r (λ t. on_text p (with_operands s rest) v (λ u. joined p s rest r t u)))))
native_string p native.StringToString s = popping (operands s) (λ r vs. answers p s (r ∷ vs))
native_string p native.StringOfInt s = popping (operands s) (λ v vs. on_int v (λ n. answers_text p s vs 0 (signed_decimal n)))
native_string p native.StringOfLong s = popping (operands s) (λ v vs. on_long v (λ n. answers_text p s vs 0 (signed_decimal n)))
native_string p native.StringOfBoolean s = popping (operands s) (λ v vs. on_int v (λ n. answers_text p s vs 0 (boolean_text n)))
native_string p native.StringOfChar s = popping (operands s) (λ v vs. on_int v (λ n. answers_text p s vs 0 (char_of n ∷ [])))
native_string p _ s = none_here

-- these units are appended to the builder r, which is answered; it costs as many
abbrev pub appends : Program → Working → List Value → Value → List ℕ → Access (Answer Working)
appends p s vs r u = on_object (with_operands s vs) r (λ o. read (place.Text o) (λ t. spend (length u) (write (place.Text o) (t ++ u) (answers p s (r ∷ vs)))))

-- null is appended as `null`
abbrev pub appends_string : Program → Working → List Value → Value → Value → Access (Answer Working)
appends_string p s vs r (Int n) = none_here
appends_string p s vs r (Long n) = none_here
appends_string p s vs r Null = appends p s vs r (codes "null")
appends_string p s vs r (Lit n) = on_text p s (Lit n) (λ u. appends p s vs r u)
appends_string p s vs r (Obj o) = on_text p s (Obj o) (λ u. appends p s vs r u)

unfoldable pub native_builder : Program → Native → Working → Access (Answer Working)
native_builder p native.BuilderInit s = popping (operands s) (λ r vs. on_object (with_operands s vs) r (λ o. write (place.Text o) [] (answers p s vs)))
native_builder p native.BuilderInitString s = popping (operands s) (λ v vs. popping vs (λ r rest. on_text p (with_operands s rest) v (λ u. on_object (with_operands s rest) r (λ o. spend (length u) (write (place.Text o) u (answers p s rest))))))
native_builder p native.BuilderAppendString s = popping (operands s) (λ v vs. popping vs (λ r rest. appends_string p s rest r v))
native_builder p native.BuilderAppendInt s = popping (operands s) (λ v vs. popping vs (λ r rest. on_int v (λ n. appends p s rest r (signed_decimal n))))
native_builder p native.BuilderAppendLong s = popping (operands s) (λ v vs. popping vs (λ r rest. on_long v (λ n. appends p s rest r (signed_decimal n))))
native_builder p native.BuilderAppendBoolean s = popping (operands s) (λ v vs. popping vs (λ r rest. on_int v (λ n. appends p s rest r (boolean_text n))))
native_builder p native.BuilderAppendChar s = popping (operands s) (λ v vs. popping vs (λ r rest. on_int v (λ n. appends p s rest r (char_of n ∷ []))))
native_builder p native.BuilderLength s = popping (operands s) (λ r vs. on_object (with_operands s vs) r (λ o. read (place.Text o) (λ t. answers p s (length_int t ∷ vs))))
native_builder p native.BuilderToString s = popping (operands s) (λ r vs. on_object (with_operands s vs) r (λ o. read (place.Text o) (λ t. answers_text p s vs 0 t)))
native_builder p _ s = none_here
