-- A built-in method touches at most three locations, or four if it is static, and four more for each unit of its cost.
use Rattle.std.proofs.Common.{◌≡◌, ℕ, ℤ, suc, ◌+◌, ◌*◌, ◌-◌, ◌≤◌, List, [], ◌∷◌, ◌++◌, length, take, drop, ◌&&◌, nat_eq, nat_lt, nat_le, pos, negsuc, refl, Option, Some, None, arith}
use Rattle.std.specs.Prelude.{codes}
use Rattle.std.specs.Fmt.{signed_decimal}
use Rattle.et_base.specs.Quotes.{utf8_of}
use Rattle.jvm_model.specs.declared.{values.Value.Value, library.Native.Native, outcome.Next.TheVariants.Go, program.Program.Program}
use Rattle.jvm_model.specs.declared.values.Value.TheVariants.{Null, Lit, Obj}
use Rattle.jvm_model.specs.declared.library.Native.TheVariants as native
use Rattle.jvm_model.specs.{Access.Access, Access.done, Builtin.string_class, Builtin.string_index_exception, Kinds.class_of, Linked.Linked}
use Rattle.jvm_model.specs.Classes.{blank, instance_head, literal_at}
use Rattle.jvm_model.specs.Rows.{Answer, answer, popping, on_int, on_long, on_object, on_reference, on_text, constant_kind}
use Rattle.jvm_model.specs.Working.{Working, operands, with_operands, makes_text, answers_text, answers_found, prints, char_of, boolean_text}
use Rattle.jvm_model.specs.NativesObject.{native_object, sets_message, makes_message, keeps_string, keeps_object, native_throwable}
use Rattle.jvm_model.specs.NativesString.{text_index, answers_part, compares, string_equals, joined, native_string, appends, appends_string, native_builder}
use Rattle.jvm_model.specs.NativesOutside.{one_text, two_texts, changes_property, native_system, prints_string, on_printed, line_feed, native_print, native_files, native_env}
use Rattle.jvm_model.specs.Natives.{NativeGroup, of_object, of_string, of_builder, of_system, of_stream, of_files, of_env, of_throwable, native_group, native_of_group, row_native}
use Rattle.check_sound.proofs.Paced.{Limits, either, paced_done, paced_read, paced_write, paced_make, paced_spend, cells, PacedRow, popping-paced, on_int-paced, on_long-paced, on_object-paced, on_reference-paced, on_text-paced}
use Rattle.check_sound.proofs.Light.{string_cells, light, null_light}

-- the row goes on
went : (p : Program) {M : Limits} {S : Type 0} {c d : ℕ} {s : S} → d ≤ c → PacedRow p M c d (done (answer Go s))
went p h = paced_done (h, tt)

-- ---- what comes after an operand

module _ (p : Program) (lk : Linked p) {M : Limits} {S : Type 0} (d n : ℕ) where
  pub pop : (vs : List Value) {k : Value → List Value → Access (Answer S)} → d ≤ n → ((v : Value) (ws : List Value) → PacedRow p M n d (k v ws)) → PacedRow p M n d (popping vs k)
  pop vs h f = popping-paced p (null_light p lk) h vs f

  pub int : (v : Value) {k : ℤ → Access (Answer S)} → d ≤ n → ((i : ℤ) → PacedRow p M n d (k i)) → PacedRow p M n d (on_int v k)
  int v h f = on_int-paced p (null_light p lk) h v f

  pub long : (v : Value) {k : ℤ → Access (Answer S)} → d ≤ n → ((i : ℤ) → PacedRow p M n d (k i)) → PacedRow p M n d (on_long v k)
  long v h f = on_long-paced p (null_light p lk) h v f

  pub object : (s : S) (v : Value) {k : ℕ → Access (Answer S)} → d ≤ n → ((o : ℕ) → PacedRow p M n d (k o)) → PacedRow p M n d (on_object s v k)
  object s v h f = on_object-paced p (null_light p lk) h s v f

  pub reference : (s : S) (v : Value) {k : Access (Answer S)} → d ≤ n → PacedRow p M n d k → PacedRow p M n d (on_reference s v k)
  reference s v h f = on_reference-paced p (null_light p lk) h s v f

-- a text: one touch at the most, and m more may come
text : (p : Program) (lk : Linked p) {M : Limits} {S : Type 0} (m d n : ℕ) (s : S) (v : Value) {k : List ℕ → Access (Answer S)} → d + suc m ≤ n → ((e : ℕ) (t : List ℕ) → e + m ≤ n → PacedRow p M n e (k t)) → PacedRow p M n d (on_text p s v k)
text p lk m d n s v h f = on_text-paced p (null_light p lk) (omega arith) s v (λ t. f d t (omega arith)) (λ t. f (suc d) t (omega arith))

-- ---- the built-in methods

-- so many touches may still come before a built-in method of the group
abbrev pub allowance : NativeGroup → ℕ
allowance of_system = 4
allowance of_files = 4
allowance of_env = 4
allowance _ = 3

-- what is within the limit with three touches more is within it
under : (d n : ℕ) → d + 3 ≤ n → d ≤ n
under d n h = omega arith

module _ (p : Program) (lk : Linked p) {M : Limits} (s : Working) where
  -- a new String: its head and its text
  makes_string : (m d n : ℕ) (t : List ℕ) {k : ℕ → Access (Answer Working)} → d + suc (suc m) ≤ n → ((e o : ℕ) → e + m ≤ n → PacedRow p M n e (k o)) → PacedRow p M n d (makes_text p t k)
  makes_string m d n t h f = paced_make (λ o. paced_write tt (f (suc (d + cells (blank p (instance_head string_class)))) o (let e = string_cells p lk in omega arith)))

  string : (d n m : ℕ) (t : List ℕ) (vs : List Value) → d ≤ n → PacedRow p M n d (answers_text p s vs m t)
  string d n m t vs h = paced_spend (makes_string 0 d (n + 4 * (m + (1 + length t))) t (omega arith) (λ e o g. went p (omega arith)))

  found : (d n m : ℕ) (o : Option (List ℕ)) (vs : List Value) → d ≤ n → PacedRow p M n d (answers_found p s vs m o)
  found d n m None vs h = paced_spend (went p (omega arith))
  found d n m (Some t) vs h = string d n m t vs h

  print : (d n : ℕ) (bytes : List ℕ) (vs : List Value) → d ≤ n → PacedRow p M n d (prints p s vs bytes)
  print d n bytes vs h = paced_spend (went p (omega arith))

  -- ---- throwables

  makes : (d n : ℕ) (t : List ℕ) (r : Value) (vs : List Value) → d ≤ n → PacedRow p M n d (makes_message p s vs r t)
  makes d n t r vs h = object p lk d n (with_operands s vs) r h (λ o. paced_spend (makes_string 1 d (n + 4 * (1 + length t)) t (omega arith) (λ e m g. paced_write tt (went p (omega arith)))))

  sets : (d n o : ℕ) (v : Value) (vs : List Value) → d + 1 ≤ n → PacedRow p M n d (sets_message p s vs o v)
  sets d n o v vs h = paced_write tt (went p (omega arith))

  keeps : (d n c : ℕ) (r v : Value) (vs : List Value) → d + 1 ≤ n → PacedRow p M n d (keeps_string p s vs r v c)
  keeps d n c r v vs h = either (nat_eq c string_class) (object p lk d n (with_operands s vs) r (omega arith) (λ o. sets d n o v vs h)) (went p (omega arith))

  keeps_any : (d n : ℕ) (r v : Value) (vs : List Value) → d + 2 ≤ n → PacedRow p M n d (keeps_object p s vs r v)
  keeps_any d n r Null vs h = makes d n (codes "null") r vs (omega arith)
  keeps_any d n r (Lit i) vs h = keeps d n (class_of (constant_kind i)) r (Lit i) vs (omega arith)
  keeps_any d n r (Obj o) vs h = paced_read tt (λ z. keeps (suc d) n (class_of z.kind) r (Obj o) vs (omega arith))
  keeps_any d n r _ vs h = paced_done (omega arith)

  -- ---- String

  index : (d n : ℕ) (i : ℤ) (m : ℕ) (vs : List Value) {f : ℕ → Access (Answer Working)} → d ≤ n → ((k : ℕ) → PacedRow p M n d (f k)) → PacedRow p M n d (text_index (with_operands s vs) i m f)
  index d n (pos i) m vs h f = either (nat_lt i m) (f i) (paced_done (h, light p lk string_index_exception (omega arith)))
  index d n (negsuc i) m vs h f = paced_done (h, light p lk string_index_exception (omega arith))

  part : (d n : ℕ) (t : List ℕ) (a b : ℤ) (vs : List Value) → d ≤ n → PacedRow p M n d (answers_part p s vs t a b)
  part d n t (pos a) (pos b) vs h = either (nat_le a b && nat_le b (length t)) (string d n 0 (take (b - a) (drop a t)) vs h) (paced_done (h, light p lk string_index_exception (omega arith)))
  part d n t _ _ vs h = paced_done (h, light p lk string_index_exception (omega arith))

  compare : (d n c : ℕ) (r v : Value) (vs : List Value) → d + 2 ≤ n → PacedRow p M n d (compares p s vs r v c)
  compare d n c r v vs h = either (nat_eq c string_class) (text p lk 1 d n s r (omega arith) (λ e t g. text p lk 0 e n s v (omega arith) (λ f u i. paced_spend (went p (omega arith))))) (went p (omega arith))

  equals : (d n : ℕ) (r v : Value) (vs : List Value) → d + 3 ≤ n → PacedRow p M n d (string_equals p s vs r v)
  equals d n r Null vs h = went p (omega arith)
  equals d n r (Lit i) vs h = compare d n (class_of (constant_kind i)) r (Lit i) vs (omega arith)
  equals d n r (Obj o) vs h = paced_read tt (λ z. compare (suc d) n (class_of z.kind) r (Obj o) vs (omega arith))
  equals d n r _ vs h = paced_done (omega arith)

  join : (d n : ℕ) (r : Value) (vs : List Value) (t u : List ℕ) → d ≤ n → PacedRow p M n d (joined p s vs r t u)
  join d n r vs t [] h = went p h
  join d n r vs t (u ∷ us) h = string d n 0 (t ++ (u ∷ us)) vs h

  -- ---- StringBuilder

  adds : (d n : ℕ) (u : List ℕ) (r : Value) (vs : List Value) → d + 2 ≤ n → PacedRow p M n d (appends p s vs r u)
  adds d n u r vs h = object p lk d n (with_operands s vs) r (omega arith) (λ o. paced_read tt (λ t. paced_spend (paced_write tt (went p (omega arith)))))

  appends_any : (d n : ℕ) (r v : Value) (vs : List Value) → d + 3 ≤ n → PacedRow p M n d (appends_string p s vs r v)
  appends_any d n r Null vs h = adds d n (codes "null") r vs (omega arith)
  appends_any d n r (Lit i) vs h = adds d n (literal_at p i) r vs (omega arith)
  appends_any d n r (Obj o) vs h = paced_read tt (λ t. adds (suc d) n t r vs (omega arith))
  appends_any d n r _ vs h = paced_done (omega arith)

  -- ---- texts of arguments

  one : (m d n : ℕ) {f : List ℕ → List Value → Access (Answer Working)} → d + suc m ≤ n → ((e : ℕ) (t : List ℕ) (vs : List Value) → e + m ≤ n → PacedRow p M n e (f t vs)) → PacedRow p M n d (one_text p s f)
  one m d n h f = pop p lk d n (operands s) (omega arith) (λ v vs. text p lk m d n (with_operands s vs) v h (λ e t g. f e t vs g))

  two : (m d n : ℕ) {f : List ℕ → List ℕ → List Value → Access (Answer Working)} → d + suc (suc m) ≤ n → ((e : ℕ) (a b : List ℕ) (vs : List Value) → e + m ≤ n → PacedRow p M n e (f a b vs)) → PacedRow p M n d (two_texts p s f)
  two m d n h f = pop p lk d n (operands s) (omega arith) (λ v vs. pop p lk d n vs (omega arith) (λ u ws. reference p lk d n (with_operands s ws) v (omega arith)
      (text p lk (suc m) d n (with_operands s ws) u h (λ e a g. text p lk m e n (with_operands s ws) v g (λ i b j. f i a b ws j)))))

  changes : (d n : ℕ) (name : List ℕ) (m : ℕ) (x y : Option (List ℕ)) (vs : List Value) → d + 1 ≤ n → PacedRow p M n d (changes_property p s vs name m x y)
  changes d n name m x None vs h = paced_spend (paced_write tt (went p (omega arith)))
  changes d n name m x (Some t) vs h = paced_spend (paced_write tt (makes_string 0 (suc d) (n + 4 * (length name + (m + (1 + length t)))) t (omega arith) (λ e o g. went p (omega arith))))

  prints_any : (d n : ℕ) (end : List ℕ) (v : Value) (vs : List Value) → d + 1 ≤ n → PacedRow p M n d (prints_string p s vs end v)
  prints_any d n end Null vs h = print d n (codes "null" ++ end) vs (omega arith)
  prints_any d n end (Lit i) vs h = print d n (utf8_of (literal_at p i) ++ end) vs (omega arith)
  prints_any d n end (Obj o) vs h = paced_read tt (λ t. print (suc d) n (utf8_of t ++ end) vs (omega arith))
  prints_any d n end _ vs h = paced_done (omega arith)

  -- ---- the methods by group

  object-native : (d n : ℕ) (x : Native) → native_group x ≡ of_object → d + 3 ≤ n → PacedRow p M n d (native_object p x s)
  unfolding native_object
  object-native d n native.ObjectInit i h = let k = under d n h in pop p lk d n (operands s) k (λ r vs. went p (omega arith))
  object-native d n native.ObjectEquals i h = let k = under d n h in pop p lk d n (operands s) k (λ v vs. pop p lk d n vs k (λ r ws. went p (omega arith)))
  object-native d n native.ObjectHashCode i h = let k = under d n h in pop p lk d n (operands s) k (λ r vs. went p (omega arith))
  object-native d n _ i h = absurd (cc)

  throwable-native : (d n : ℕ) (x : Native) → native_group x ≡ of_throwable → d + 3 ≤ n → PacedRow p M n d (native_throwable p x s)
  unfolding native_throwable
  throwable-native d n native.ThrowableInit i h = let k = under d n h in pop p lk d n (operands s) k (λ r vs. went p (omega arith))
  throwable-native d n native.ThrowableInitString i h = let k = under d n h in pop p lk d n (operands s) k (λ v vs. pop p lk d n vs k (λ r ws. object p lk d n (with_operands s ws) r k (λ o. sets d n o v ws (omega arith))))
  throwable-native d n native.ThrowableGetMessage i h = let k = under d n h in pop p lk d n (operands s) k (λ r vs. object p lk d n (with_operands s vs) r k (λ o. paced_read tt (λ v. went p (omega arith))))
  throwable-native d n native.AssertionInitObject i h = let k = under d n h in pop p lk d n (operands s) k (λ v vs. pop p lk d n vs k (λ r ws. keeps_any d n r v ws (omega arith)))
  throwable-native d n native.AssertionInitInt i h = let k = under d n h in pop p lk d n (operands s) k (λ v vs. pop p lk d n vs k (λ r ws. int p lk d n v k (λ j. makes d n (signed_decimal j) r ws k)))
  throwable-native d n native.AssertionInitLong i h = let k = under d n h in pop p lk d n (operands s) k (λ v vs. pop p lk d n vs k (λ r ws. long p lk d n v k (λ j. makes d n (signed_decimal j) r ws k)))
  throwable-native d n native.AssertionInitBoolean i h = let k = under d n h in pop p lk d n (operands s) k (λ v vs. pop p lk d n vs k (λ r ws. int p lk d n v k (λ j. makes d n (boolean_text j) r ws k)))
  throwable-native d n native.AssertionInitChar i h = let k = under d n h in pop p lk d n (operands s) k (λ v vs. pop p lk d n vs k (λ r ws. int p lk d n v k (λ j. makes d n (char_of j ∷ []) r ws k)))
  throwable-native d n _ i h = absurd (cc)

  string-native : (d n : ℕ) (x : Native) → native_group x ≡ of_string → d + 3 ≤ n → PacedRow p M n d (native_string p x s)
  unfolding native_string
  string-native d n native.StringLength i h = let k = under d n h in pop p lk d n (operands s) k (λ r vs. text p lk 0 d n (with_operands s vs) r (omega arith) (λ e t g. went p (omega arith)))
  string-native d n native.StringIsEmpty i h = let k = under d n h in pop p lk d n (operands s) k (λ r vs. text p lk 0 d n (with_operands s vs) r (omega arith) (λ e t g. went p (omega arith)))
  string-native d n native.StringCharAt i h = let k = under d n h in pop p lk d n (operands s) k (λ v vs. pop p lk d n vs k (λ r ws. int p lk d n v k (λ j. text p lk 0 d n (with_operands s ws) r (omega arith) (λ e t g. index e n j (length t) ws (omega arith) (λ k. went p (omega arith))))))
  string-native d n native.StringEquals i h = let k = under d n h in pop p lk d n (operands s) k (λ v vs. pop p lk d n vs k (λ r ws. equals d n r v ws (omega arith)))
  string-native d n native.StringHashCode i h = let k = under d n h in pop p lk d n (operands s) k (λ r vs. text p lk 0 d n (with_operands s vs) r (omega arith) (λ e t g. paced_spend (went p (omega arith))))
  string-native d n native.StringSubstringFrom i h = let k = under d n h in pop p lk d n (operands s) k (λ v vs. pop p lk d n vs k (λ r ws. int p lk d n v k (λ a. text p lk 0 d n (with_operands s ws) r (omega arith) (λ e t g. part e n t a (pos (length t)) ws (omega arith)))))
  string-native d n native.StringSubstring i h = let k = under d n h in pop p lk d n (operands s) k (λ u us. pop p lk d n us k (λ v vs. pop p lk d n vs k (λ r ws. int p lk d n u k (λ b. int p lk d n v k (λ a.
      text p lk 0 d n (with_operands s ws) r (omega arith) (λ e t g. part e n t a b ws (omega arith)))))))
  string-native d n native.StringConcat i h = let k = under d n h in pop p lk d n (operands s) k (λ v vs. pop p lk d n vs k (λ r ws. reference p lk d n (with_operands s ws) v k (text p lk 1 d n (with_operands s ws) r (omega arith) (λ e t g.
      text p lk 0 e n (with_operands s ws) v (omega arith) (λ f u j. join f n r ws t u (omega arith))))))
  string-native d n native.StringToString i h = let k = under d n h in pop p lk d n (operands s) k (λ r vs. went p (omega arith))
  string-native d n native.StringOfInt i h = let k = under d n h in pop p lk d n (operands s) k (λ v vs. int p lk d n v k (λ j. string d n 0 (signed_decimal j) vs k))
  string-native d n native.StringOfLong i h = let k = under d n h in pop p lk d n (operands s) k (λ v vs. long p lk d n v k (λ j. string d n 0 (signed_decimal j) vs k))
  string-native d n native.StringOfBoolean i h = let k = under d n h in pop p lk d n (operands s) k (λ v vs. int p lk d n v k (λ j. string d n 0 (boolean_text j) vs k))
  string-native d n native.StringOfChar i h = let k = under d n h in pop p lk d n (operands s) k (λ v vs. int p lk d n v k (λ j. string d n 0 (char_of j ∷ []) vs k))
  string-native d n _ i h = absurd (cc)

  builder-native : (d n : ℕ) (x : Native) → native_group x ≡ of_builder → d + 3 ≤ n → PacedRow p M n d (native_builder p x s)
  unfolding native_builder
  builder-native d n native.BuilderInit i h = let k = under d n h in pop p lk d n (operands s) k (λ r vs. object p lk d n (with_operands s vs) r k (λ o. paced_write tt (went p (omega arith))))
  builder-native d n native.BuilderInitString i h = let k = under d n h in pop p lk d n (operands s) k (λ v vs. pop p lk d n vs k (λ r ws. text p lk 1 d n (with_operands s ws) v (omega arith) (λ e t g.
      object p lk e n (with_operands s ws) r (omega arith) (λ o. paced_spend (paced_write tt (went p (omega arith)))))))
  builder-native d n native.BuilderAppendString i h = let k = under d n h in pop p lk d n (operands s) k (λ v vs. pop p lk d n vs k (λ r ws. appends_any d n r v ws (omega arith)))
  builder-native d n native.BuilderAppendInt i h = let k = under d n h in pop p lk d n (operands s) k (λ v vs. pop p lk d n vs k (λ r ws. int p lk d n v k (λ j. adds d n (signed_decimal j) r ws (omega arith))))
  builder-native d n native.BuilderAppendLong i h = let k = under d n h in pop p lk d n (operands s) k (λ v vs. pop p lk d n vs k (λ r ws. long p lk d n v k (λ j. adds d n (signed_decimal j) r ws (omega arith))))
  builder-native d n native.BuilderAppendBoolean i h = let k = under d n h in pop p lk d n (operands s) k (λ v vs. pop p lk d n vs k (λ r ws. int p lk d n v k (λ j. adds d n (boolean_text j) r ws (omega arith))))
  builder-native d n native.BuilderAppendChar i h = let k = under d n h in pop p lk d n (operands s) k (λ v vs. pop p lk d n vs k (λ r ws. int p lk d n v k (λ j. adds d n (char_of j ∷ []) r ws (omega arith))))
  builder-native d n native.BuilderLength i h = let k = under d n h in pop p lk d n (operands s) k (λ r vs. object p lk d n (with_operands s vs) r k (λ o. paced_read tt (λ t. went p (omega arith))))
  builder-native d n native.BuilderToString i h = let k = under d n h in pop p lk d n (operands s) k (λ r vs. object p lk d n (with_operands s vs) r k (λ o. paced_read tt (λ t. string (suc d) n 0 t vs (omega arith))))
  builder-native d n _ i h = absurd (cc)

  system-native : (d n : ℕ) (x : Native) → native_group x ≡ of_system → d + 4 ≤ n → PacedRow p M n d (native_system p x s)
  unfolding native_system
  system-native d n native.SystemClock i h = went p (omega arith)
  system-native d n native.SystemGetProperty i h = one 1 d n (omega arith) (λ e t vs g. paced_read tt (λ c. found (suc e) n (length t) c vs (omega arith)))
  system-native d n native.SystemSetProperty i h = two 2 d n (omega arith) (λ e a b vs g. paced_read tt (λ c. changes (suc e) n a (length b) (Some b) c vs (omega arith)))
  system-native d n native.SystemClearProperty i h = one 2 d n (omega arith) (λ e t vs g. paced_read tt (λ c. changes (suc e) n t 0 None c vs (omega arith)))
  system-native d n _ i h = absurd (cc)

  on_stream : (d n : ℕ) {f : Value → List Value → Access (Answer Working)} → d ≤ n → ((v : Value) (vs : List Value) → PacedRow p M n d (f v vs)) → PacedRow p M n d (on_printed s f)
  on_stream d n h f = pop p lk d n (operands s) h (λ v vs. pop p lk d n vs h (λ r ws. f v ws))

  print-native : (d n : ℕ) (x : Native) → native_group x ≡ of_stream → d + 3 ≤ n → PacedRow p M n d (native_print p x s)
  unfolding native_print
  print-native d n native.PrintString i h = on_stream d n (omega arith) (λ v vs. prints_any d n [] v vs (omega arith))
  print-native d n native.PrintInt i h = on_stream d n (omega arith) (λ v vs. int p lk d n v (omega arith) (λ j. print d n (signed_decimal j) vs (omega arith)))
  print-native d n native.PrintLong i h = on_stream d n (omega arith) (λ v vs. long p lk d n v (omega arith) (λ j. print d n (signed_decimal j) vs (omega arith)))
  print-native d n native.PrintBoolean i h = on_stream d n (omega arith) (λ v vs. int p lk d n v (omega arith) (λ j. print d n (boolean_text j) vs (omega arith)))
  print-native d n native.PrintChar i h = on_stream d n (omega arith) (λ v vs. int p lk d n v (omega arith) (λ j. print d n (utf8_of (char_of j ∷ [])) vs (omega arith)))
  print-native d n native.PrintlnString i h = on_stream d n (omega arith) (λ v vs. prints_any d n line_feed v vs (omega arith))
  print-native d n native.PrintlnInt i h = on_stream d n (omega arith) (λ v vs. int p lk d n v (omega arith) (λ j. print d n (signed_decimal j ++ line_feed) vs (omega arith)))
  print-native d n native.PrintlnLong i h = on_stream d n (omega arith) (λ v vs. long p lk d n v (omega arith) (λ j. print d n (signed_decimal j ++ line_feed) vs (omega arith)))
  print-native d n native.PrintlnBoolean i h = on_stream d n (omega arith) (λ v vs. int p lk d n v (omega arith) (λ j. print d n (boolean_text j ++ line_feed) vs (omega arith)))
  print-native d n native.PrintlnChar i h = on_stream d n (omega arith) (λ v vs. int p lk d n v (omega arith) (λ j. print d n (utf8_of (char_of j ∷ []) ++ line_feed) vs (omega arith)))
  print-native d n native.Println i h = pop p lk d n (operands s) (omega arith) (λ r vs. print d n line_feed vs (omega arith))
  print-native d n _ i h = absurd (cc)

  files-native : (d n : ℕ) (x : Native) → native_group x ≡ of_files → d + 4 ≤ n → PacedRow p M n d (native_files p x s)
  unfolding native_files
  files-native d n native.FilesRead i h = one 1 d n (omega arith) (λ e t vs g. paced_read tt (λ c. found (suc e) n (length t) c vs (omega arith)))
  files-native d n native.FilesWrite i h = two 1 d n (omega arith) (λ e a b vs g. paced_spend (paced_write tt (went p (omega arith))))
  files-native d n native.FilesAppend i h = two 2 d n (omega arith) (λ e a b vs g. paced_read tt (λ c. paced_spend (paced_write tt (went p (omega arith)))))
  files-native d n native.FilesDelete i h = one 2 d n (omega arith) (λ e t vs g. paced_read tt (λ c. paced_spend (paced_write tt (went p (omega arith)))))
  files-native d n native.FilesExists i h = one 1 d n (omega arith) (λ e t vs g. paced_read tt (λ c. paced_spend (went p (omega arith))))
  files-native d n _ i h = absurd (cc)

  env-native : (d n : ℕ) (x : Native) → native_group x ≡ of_env → d + 4 ≤ n → PacedRow p M n d (native_env p x s)
  unfolding native_env
  env-native d n native.EnvPrint i h = pop p lk d n (operands s) (omega arith) (λ v vs. int p lk d n v (omega arith) (λ j. print d n (signed_decimal j ++ line_feed) vs (omega arith)))
  env-native d n native.EnvRandom i h = went p (omega arith)
  env-native d n _ i h = absurd (cc)

  by_group : (d n : ℕ) (g : NativeGroup) (x : Native) → native_group x ≡ g → d + allowance g ≤ n → PacedRow p M n d (native_of_group g p x s)
  by_group d n of_object x i h = object-native d n x i h
  by_group d n of_string x i h = string-native d n x i h
  by_group d n of_builder x i h = builder-native d n x i h
  by_group d n of_system x i h = system-native d n x i h
  by_group d n of_stream x i h = print-native d n x i h
  by_group d n of_files x i h = files-native d n x i h
  by_group d n of_env x i h = env-native d n x i h
  by_group d n of_throwable x i h = throwable-native d n x i h

  -- the row of a built-in method
  pub native-paced : (d n : ℕ) (x : Native) → d + allowance (native_group x) ≤ n → PacedRow p M n d (row_native p x s)
  unfolding row_native
  native-paced d n x h = by_group d n (native_group x) x refl h
