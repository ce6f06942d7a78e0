-- Built-in methods in pairs.
use Rattle.std.proofs.Common.{◌≡◌, ℕ, ℤ, ◌+◌, ◌-◌, true, false, List, [], ◌∷◌, ◌++◌, length, take, drop, nat_lt, nat_eq, refl, ap, subst, arith, pos, negsuc, Option, Some, None}
use Rattle.std.specs.Prelude.{codes}
use Rattle.std.specs.Fmt.{signed_decimal}
use Rattle.et_base.specs.{Numbers.add64, Quotes.utf8_of}
use Rattle.jvm_model.specs.declared.{values.Value.Value, values.Value.TheVariants.Long, outcome.Own.Own, library.Native.Native}
use Rattle.jvm_model.specs.declared.values.Location.TheVariants as place
use Rattle.jvm_model.specs.declared.library.Native.TheVariants as native
use Rattle.jvm_model.specs.{Access.Access, Access.read, Builtin.string_class, Builtin.string_index_exception, Rows.Answer, Rows.faults}
use Rattle.jvm_model.specs.Working.{Working, with_operands, answers, makes_text, answers_text, answers_found, prints, char_of, boolean_text}
use Rattle.jvm_model.specs.NativesObject.{native_object, sets_message, makes_message, keeps_string, keeps_object, native_throwable}
use Rattle.jvm_model.specs.NativesString.{text_index, answers_part, compares, string_equals, joined, native_string, appends, appends_string, native_builder}
use Rattle.jvm_model.specs.NativesOutside.{one_text, two_texts, stepped, upper_int, changes_property, native_system, prints_string, on_printed, line_feed, native_print, native_files, native_env}
use Rattle.jvm_model.specs.Natives.{NativeGroup, of_object, of_string, of_builder, of_system, of_stream, of_files, of_env, of_throwable, native_group, native_of_group, row_native}
use Rattle.order_law.specs.Pairing.{PairedList, one_more, PairedValue, ints, longs, nulls, literals, objects, at_field, texts, files, props, both_done, both_read, both_write, both_make, both_spend}
use Rattle.order_law.specs.Numbers.{with_places}
use Rattle.order_law.proofs.{Twins.Twins, Lists.test-paired, PlainRows.same_reference-paired, ObjectRows.truth-paired}
use Rattle.order_law.proofs.Programs.{next_place-paired, blank-paired, instance-paired, class_of-paired}
use Rattle.order_law.proofs.States.{PairedWorking, go, answered, stack-paired, place-paired}
use Rattle.order_law.proofs.Combinators.{V, Answers, choose-paired, stuck_row-paired, faults-paired, popping-paired, on_int-paired, on_long-paired, on_object-paired, on_reference-paired, with_kind-paired, on_text-paired}

module _ (tw : Twins) where
  abbrev pub W : Working → Working → Type 0
  W = PairedWorking tw.numbers tw.place

  abbrev Natives : Access (Answer Working) → Access (Answer Working) → Type 0
  Natives a b = Answers tw W W a b

  abbrev Vs : List Value → List Value → Type 0
  Vs = PairedList (PairedValue (with_places tw.numbers tw.place))

  pub answers-paired : {s t : Working} {vs ws : List Value} → W s t → Vs vs ws → Natives (answers tw.left s vs) (answers tw.right t ws)
  answers-paired w rs = let f = w.entries in both_done (answered go (record {
    entries = place-paired tw.numbers tw.place (stack-paired tw.numbers tw.place f rs) (next_place-paired tw.numbers tw.left tw.right tw.matched _ _ _ _ f.method f.entries.top.pc);
    own = w.own;
  }))

  pub with-operands : {s t : Working} {vs ws : List Value} → W s t → Vs vs ws → W (with_operands s vs) (with_operands t ws)
  with-operands w rs = record { entries = stack-paired tw.numbers tw.place w.entries rs; own = w.own }

  pub read_text-paired : {a b : ℕ} {k l : List ℕ → Access (Answer Working)} → tw.place a b → ((x : List ℕ) → Natives (k x) (l x)) → Natives (read (place.Text a) k) (read (place.Text b) l)
  read_text-paired {k = k} {l = l} x f = both_read (texts x) (λ c d e. subst (λ (z : List ℕ). Natives (k c) (l z)) e (f c))

  pub read_file-paired : (name : List ℕ) {k l : Option (List ℕ) → Access (Answer Working)} → ((x : Option (List ℕ)) → Natives (k x) (l x)) → Natives (read (place.File name) k) (read (place.File name) l)
  read_file-paired name {k} {l} f = both_read (files name) (λ c d e. subst (λ (z : Option (List ℕ)). Natives (k c) (l z)) e (f c))

  pub read_prop-paired : (name : List ℕ) {k l : Option (List ℕ) → Access (Answer Working)} → ((x : Option (List ℕ)) → Natives (k x) (l x)) → Natives (read (place.Prop name) k) (read (place.Prop name) l)
  read_prop-paired name {k} {l} f = both_read (props name) (λ c d e. subst (λ (z : Option (List ℕ)). Natives (k c) (l z)) e (f c))

  pub makes_text-paired : (t : List ℕ) {k l : ℕ → Access (Answer Working)} → ((a b : ℕ) → tw.place a b → Natives (k a) (l b)) → Natives (makes_text tw.left t k) (makes_text tw.right t l)
  makes_text-paired t f = both_make (blank-paired tw.numbers tw.left tw.right tw.matched tw.place (instance-paired tw.numbers tw.left tw.right tw.matched string_class string_class (tw.matched.builtin string_class (omega arith))))
      (λ a b x. both_write (texts x) refl (f a b x))

  pub answers_text-paired : {s t : Working} {vs ws : List Value} (i : ℕ) (x : List ℕ) → W s t → Vs vs ws → Natives (answers_text tw.left s vs i x) (answers_text tw.right t ws i x)
  answers_text-paired i x w rs = both_spend (i + (1 + length x)) (makes_text-paired x (λ a b e. answers-paired w (one_more (objects e) rs)))

  pub answers_found-paired : {s t : Working} {vs ws : List Value} (i : ℕ) (x : Option (List ℕ)) → W s t → Vs vs ws → Natives (answers_found tw.left s vs i x) (answers_found tw.right t ws i x)
  answers_found-paired i None w rs = both_spend i (answers-paired w (one_more nulls rs))
  answers_found-paired i (Some x) w rs = answers_text-paired i x w rs

  pub prints-paired : {s t : Working} {vs ws : List Value} (x : List ℕ) → W s t → Vs vs ws → Natives (prints tw.left s vs x) (prints tw.right t ws x)
  prints-paired x w rs = both_spend (length x) (answers-paired (record { entries = w.entries; own = ap (λ (o : Own). record o { output = o.output ++ x }) w.own }) rs)

  pub throws_at : {c : ℕ} {s t : Working} → tw.numbers.class c c ≡ true → W s t → Natives (faults c s) (faults c t)
  throws_at e w = faults-paired tw e w

  pub is_string : (c d : ℕ) → tw.numbers.class c d ≡ true → nat_eq c string_class ≡ nat_eq d string_class
  is_string c d e = test-paired tw.matched.one_class c d string_class string_class e (tw.matched.builtin string_class (omega arith))

  -- Object
  pub object-native : (x : Native) {s t : Working} → W s t → Natives (native_object tw.left x s) (native_object tw.right x t)
  unfolding native_object
  object-native native.ObjectInit w = popping-paired tw w.entries.entries.top.stack (λ a b vs ws r rs. answers-paired w rs)
  object-native native.ObjectEquals w = popping-paired tw w.entries.entries.top.stack (λ a b vs ws r rs. popping-paired tw rs (λ c d us xs k ks. answers-paired w (one_more (truth-paired tw (same_reference-paired tw k r)) ks)))
  object-native native.ObjectHashCode w = popping-paired tw w.entries.entries.top.stack (λ a b vs ws r rs. answers-paired w (one_more (ints (pos 0)) rs))
  object-native _ w = stuck_row-paired tw

  -- throwables
  pub sets_message-paired : {s t : Working} {vs ws : List Value} {a b : ℕ} {v u : Value} → W s t → Vs vs ws → tw.place a b → V tw v u → Natives (sets_message tw.left s vs a v) (sets_message tw.right t ws b u)
  sets_message-paired w rs x r = both_write (at_field x tw.matched.message) r (answers-paired w rs)

  pub makes_message-paired : {s t : Working} {vs ws : List Value} {v u : Value} (x : List ℕ) → W s t → Vs vs ws → V tw v u → Natives (makes_message tw.left s vs v x) (makes_message tw.right t ws u x)
  makes_message-paired x w rs r = on_object-paired tw _ _ (with-operands w rs) r (λ a b e. both_spend (1 + length x) (makes_text-paired x (λ c d g. sets_message-paired w rs e (objects g))))

  pub keeps_string-paired : {s t : Working} {vs ws : List Value} {v u x y : Value} (c d : ℕ) → W s t → Vs vs ws → V tw v u → V tw x y → tw.numbers.class c d ≡ true → Natives (keeps_string tw.left s vs v x c) (keeps_string tw.right t ws u y d)
  keeps_string-paired c d w rs r k e = choose-paired tw _ _ (is_string c d e) (on_object-paired tw _ _ (with-operands w rs) r (λ a b g. sets_message-paired w rs g k)) (answers-paired w rs)

  pub keeps_object-paired : {s t : Working} {vs ws : List Value} {v u x y : Value} → W s t → Vs vs ws → V tw v u → V tw x y → Natives (keeps_object tw.left s vs v x) (keeps_object tw.right t ws u y)
  keeps_object-paired w rs r (ints i) = stuck_row-paired tw
  keeps_object-paired w rs r (longs i) = stuck_row-paired tw
  keeps_object-paired w rs r nulls = makes_message-paired (codes "null") w rs r
  keeps_object-paired w rs r v = with_kind-paired tw v (λ x y h. keeps_string-paired _ _ w rs r v (class_of-paired tw.numbers tw.left tw.right tw.matched h))

  pub throwable-native : (x : Native) {s t : Working} → W s t → Natives (native_throwable tw.left x s) (native_throwable tw.right x t)
  unfolding native_throwable
  throwable-native native.ThrowableInit w = popping-paired tw w.entries.entries.top.stack (λ a b vs ws r rs. answers-paired w rs)
  throwable-native native.ThrowableInitString w = popping-paired tw w.entries.entries.top.stack (λ a b vs ws r rs. popping-paired tw rs (λ c d us xs k ks. on_object-paired tw _ _ (with-operands w ks) k (λ x y e. sets_message-paired w ks e r)))
  throwable-native native.ThrowableGetMessage w = popping-paired tw w.entries.entries.top.stack (λ a b vs ws r rs. on_object-paired tw _ _ (with-operands w rs) r (λ x y e. both_read (at_field e tw.matched.message) (λ v u k. answers-paired w (one_more k rs))))
  throwable-native native.AssertionInitObject w = popping-paired tw w.entries.entries.top.stack (λ a b vs ws r rs. popping-paired tw rs (λ c d us xs k ks. keeps_object-paired w ks k r))
  throwable-native native.AssertionInitInt w = popping-paired tw w.entries.entries.top.stack (λ a b vs ws r rs. popping-paired tw rs (λ c d us xs k ks. on_int-paired tw r (λ i. makes_message-paired (signed_decimal i) w ks k)))
  throwable-native native.AssertionInitLong w = popping-paired tw w.entries.entries.top.stack (λ a b vs ws r rs. popping-paired tw rs (λ c d us xs k ks. on_long-paired tw r (λ i. makes_message-paired (signed_decimal i) w ks k)))
  throwable-native native.AssertionInitBoolean w = popping-paired tw w.entries.entries.top.stack (λ a b vs ws r rs. popping-paired tw rs (λ c d us xs k ks. on_int-paired tw r (λ i. makes_message-paired (boolean_text i) w ks k)))
  throwable-native native.AssertionInitChar w = popping-paired tw w.entries.entries.top.stack (λ a b vs ws r rs. popping-paired tw rs (λ c d us xs k ks. on_int-paired tw r (λ i. makes_message-paired (char_of i ∷ []) w ks k)))
  throwable-native _ w = stuck_row-paired tw

  -- String
  pub text_index-paired : {s t : Working} (i : ℤ) (size : ℕ) {k l : ℕ → Access (Answer Working)} → W s t → ((j : ℕ) → Natives (k j) (l j)) → Natives (text_index s i size k) (text_index t i size l)
  text_index-paired (pos i) size w f = choose-paired tw (nat_lt i size) (nat_lt i size) refl (f i) (throws_at (tw.matched.builtin string_index_exception (omega arith)) w)
  text_index-paired (negsuc i) size w f = throws_at (tw.matched.builtin string_index_exception (omega arith)) w

  pub part-native : {s t : Working} {vs ws : List Value} (x : List ℕ) (i j : ℤ) → W s t → Vs vs ws → Natives (answers_part tw.left s vs x i j) (answers_part tw.right t ws x i j)
  part-native x (pos i) (pos j) w rs = choose-paired tw _ _ refl (answers_text-paired 0 (take (j - i) (drop i x)) w rs) (throws_at (tw.matched.builtin string_index_exception (omega arith)) (with-operands w rs))
  part-native x _ _ w rs = throws_at (tw.matched.builtin string_index_exception (omega arith)) (with-operands w rs)

  pub compares-paired : {s t : Working} {vs ws : List Value} {v u x y : Value} (c d : ℕ) → W s t → Vs vs ws → V tw v u → V tw x y → tw.numbers.class c d ≡ true → Natives (compares tw.left s vs v x c) (compares tw.right t ws u y d)
  compares-paired c d w rs r k e = choose-paired tw _ _ (is_string c d e)
      (on_text-paired tw _ _ w r (λ x. on_text-paired tw _ _ w k (λ y. both_spend (length x) (answers-paired w (one_more (truth-paired tw refl) rs)))))
      (answers-paired w (one_more (truth-paired tw {b = false} refl) rs))

  pub equals-paired : {s t : Working} {vs ws : List Value} {v u x y : Value} → W s t → Vs vs ws → V tw v u → V tw x y → Natives (string_equals tw.left s vs v x) (string_equals tw.right t ws u y)
  equals-paired w rs r (ints i) = stuck_row-paired tw
  equals-paired w rs r (longs i) = stuck_row-paired tw
  equals-paired w rs r nulls = answers-paired w (one_more (truth-paired tw {b = false} refl) rs)
  equals-paired w rs r v = with_kind-paired tw v (λ x y h. compares-paired _ _ w rs r v (class_of-paired tw.numbers tw.left tw.right tw.matched h))

  pub joined-paired : {s t : Working} {vs ws : List Value} {v u : Value} (x y : List ℕ) → W s t → Vs vs ws → V tw v u → Natives (joined tw.left s vs v x y) (joined tw.right t ws u x y)
  joined-paired x [] w rs r = answers-paired w (one_more r rs)
  joined-paired x (y ∷ ys) w rs r = answers_text-paired 0 (x ++ (y ∷ ys)) w rs

  pub string-native : (x : Native) {s t : Working} → W s t → Natives (native_string tw.left x s) (native_string tw.right x t)
  unfolding native_string
  string-native native.StringLength w = popping-paired tw w.entries.entries.top.stack (λ a b vs ws r rs. on_text-paired tw _ _ (with-operands w rs) r (λ x. answers-paired w (one_more (ints _) rs)))
  string-native native.StringIsEmpty w = popping-paired tw w.entries.entries.top.stack (λ a b vs ws r rs. on_text-paired tw _ _ (with-operands w rs) r (λ x. answers-paired w (one_more (ints _) rs)))
  string-native native.StringCharAt w = popping-paired tw w.entries.entries.top.stack (λ a b vs ws r rs. popping-paired tw rs (λ c d us xs k ks. on_int-paired tw r (λ i. on_text-paired tw _ _ (with-operands w ks) k (λ x.
      text_index-paired i (length x) (with-operands w ks) (λ j. answers-paired w (one_more (ints _) ks))))))
  string-native native.StringEquals w = popping-paired tw w.entries.entries.top.stack (λ a b vs ws r rs. popping-paired tw rs (λ c d us xs k ks. equals-paired w ks k r))
  string-native native.StringHashCode w = popping-paired tw w.entries.entries.top.stack (λ a b vs ws r rs. on_text-paired tw _ _ (with-operands w rs) r (λ x. both_spend (length x) (answers-paired w (one_more (ints _) rs))))
  string-native native.StringSubstringFrom w = popping-paired tw w.entries.entries.top.stack (λ a b vs ws r rs. popping-paired tw rs (λ c d us xs k ks. on_int-paired tw r (λ i. on_text-paired tw _ _ (with-operands w ks) k (λ x. part-native x i (pos (length x)) w ks))))
  string-native native.StringSubstring w = popping-paired tw w.entries.entries.top.stack (λ a b vs ws r rs. popping-paired tw rs (λ c d us xs k ks. popping-paired tw ks (λ e g us' xs' l ls. on_int-paired tw r (λ j. on_int-paired tw k (λ i. on_text-paired tw _ _ (with-operands w ls) l (λ x. part-native x i j w ls))))))
  string-native native.StringConcat w = popping-paired tw w.entries.entries.top.stack (λ a b vs ws r rs. popping-paired tw rs (λ c d us xs k ks. on_reference-paired tw _ _ (with-operands w ks) r (on_text-paired tw _ _ (with-operands w ks) k (λ x. on_text-paired tw _ _ (with-operands w ks) r (λ y. joined-paired x y w ks k)))))
  string-native native.StringToString w = popping-paired tw w.entries.entries.top.stack (λ a b vs ws r rs. answers-paired w (one_more r rs))
  string-native native.StringOfInt w = popping-paired tw w.entries.entries.top.stack (λ a b vs ws r rs. on_int-paired tw r (λ i. answers_text-paired 0 (signed_decimal i) w rs))
  string-native native.StringOfLong w = popping-paired tw w.entries.entries.top.stack (λ a b vs ws r rs. on_long-paired tw r (λ i. answers_text-paired 0 (signed_decimal i) w rs))
  string-native native.StringOfBoolean w = popping-paired tw w.entries.entries.top.stack (λ a b vs ws r rs. on_int-paired tw r (λ i. answers_text-paired 0 (boolean_text i) w rs))
  string-native native.StringOfChar w = popping-paired tw w.entries.entries.top.stack (λ a b vs ws r rs. on_int-paired tw r (λ i. answers_text-paired 0 (char_of i ∷ []) w rs))
  string-native _ w = stuck_row-paired tw

  -- StringBuilder
  pub appends-paired : {s t : Working} {vs ws : List Value} {v u : Value} (x : List ℕ) → W s t → Vs vs ws → V tw v u → Natives (appends tw.left s vs v x) (appends tw.right t ws u x)
  appends-paired x w rs r = on_object-paired tw _ _ (with-operands w rs) r (λ a b e. both_read (texts e) (λ c d g. both_spend (length x) (both_write (texts e) (ap (λ (z : List ℕ). z ++ x) g) (answers-paired w (one_more r rs)))))

  pub appends_string-paired : {s t : Working} {vs ws : List Value} {v u x y : Value} → W s t → Vs vs ws → V tw v u → V tw x y → Natives (appends_string tw.left s vs v x) (appends_string tw.right t ws u y)
  appends_string-paired w rs r (ints i) = stuck_row-paired tw
  appends_string-paired w rs r (longs i) = stuck_row-paired tw
  appends_string-paired w rs r nulls = appends-paired (codes "null") w rs r
  appends_string-paired w rs r v = on_text-paired tw _ _ w v (λ x. appends-paired x w rs r)

  pub builder-native : (x : Native) {s t : Working} → W s t → Natives (native_builder tw.left x s) (native_builder tw.right x t)
  unfolding native_builder
  builder-native native.BuilderInit w = popping-paired tw w.entries.entries.top.stack (λ a b vs ws r rs. on_object-paired tw _ _ (with-operands w rs) r (λ x y e. both_write (texts e) refl (answers-paired w rs)))
  builder-native native.BuilderInitString w = popping-paired tw w.entries.entries.top.stack (λ a b vs ws r rs. popping-paired tw rs (λ c d us xs k ks. on_text-paired tw _ _ (with-operands w ks) r (λ x. on_object-paired tw _ _ (with-operands w ks) k (λ o o' e. both_spend (length x) (both_write (texts e) refl (answers-paired w ks))))))
  builder-native native.BuilderAppendString w = popping-paired tw w.entries.entries.top.stack (λ a b vs ws r rs. popping-paired tw rs (λ c d us xs k ks. appends_string-paired w ks k r))
  builder-native native.BuilderAppendInt w = popping-paired tw w.entries.entries.top.stack (λ a b vs ws r rs. popping-paired tw rs (λ c d us xs k ks. on_int-paired tw r (λ i. appends-paired (signed_decimal i) w ks k)))
  builder-native native.BuilderAppendLong w = popping-paired tw w.entries.entries.top.stack (λ a b vs ws r rs. popping-paired tw rs (λ c d us xs k ks. on_long-paired tw r (λ i. appends-paired (signed_decimal i) w ks k)))
  builder-native native.BuilderAppendBoolean w = popping-paired tw w.entries.entries.top.stack (λ a b vs ws r rs. popping-paired tw rs (λ c d us xs k ks. on_int-paired tw r (λ i. appends-paired (boolean_text i) w ks k)))
  builder-native native.BuilderAppendChar w = popping-paired tw w.entries.entries.top.stack (λ a b vs ws r rs. popping-paired tw rs (λ c d us xs k ks. on_int-paired tw r (λ i. appends-paired (char_of i ∷ []) w ks k)))
  builder-native native.BuilderLength w = popping-paired tw w.entries.entries.top.stack (λ a b vs ws r rs. on_object-paired tw _ _ (with-operands w rs) r (λ x y e. read_text-paired e (λ z. answers-paired w (one_more (ints _) rs))))
  builder-native native.BuilderToString w = popping-paired tw w.entries.entries.top.stack (λ a b vs ws r rs. on_object-paired tw _ _ (with-operands w rs) r (λ x y e. read_text-paired e (λ z. answers_text-paired 0 z w rs)))
  builder-native _ w = stuck_row-paired tw

  -- System, files and the rest outside
  pub one_text-paired : {s t : Working} {k l : List ℕ → List Value → Access (Answer Working)} → W s t → ((x : List ℕ) (vs ws : List Value) → Vs vs ws → Natives (k x vs) (l x ws)) → Natives (one_text tw.left s k) (one_text tw.right t l)
  one_text-paired w f = popping-paired tw w.entries.entries.top.stack (λ a b vs ws r rs. on_text-paired tw _ _ (with-operands w rs) r (λ x. f x vs ws rs))

  pub two_texts-paired : {s t : Working} {k l : List ℕ → List ℕ → List Value → Access (Answer Working)} → W s t → ((x y : List ℕ) (vs ws : List Value) → Vs vs ws → Natives (k x y vs) (l x y ws)) → Natives (two_texts tw.left s k) (two_texts tw.right t l)
  two_texts-paired w f = popping-paired tw w.entries.entries.top.stack (λ a b vs ws r rs. popping-paired tw rs (λ c d us xs k ks. on_reference-paired tw _ _ (with-operands w ks) r
      (on_text-paired tw _ _ (with-operands w ks) k (λ x. on_text-paired tw _ _ (with-operands w ks) r (λ y. f x y us xs ks)))))

  pub clock-paired : {s t : Working} → W s t → V tw (Long s.own.clock) (Long t.own.clock)
  clock-paired {s} {t} w = subst (λ (z : Own). V tw (Long s.own.clock) (Long z.clock)) w.own (longs s.own.clock)

  pub random-paired : {s t : Working} → W s t → V tw (upper_int (stepped s.own.random)) (upper_int (stepped t.own.random))
  random-paired {s} {t} w = subst (λ (z : Own). V tw (upper_int (stepped s.own.random)) (upper_int (stepped z.random))) w.own (ints _)

  pub changes-paired : {s t : Working} {vs ws : List Value} (name : List ℕ) (i : ℕ) (x y : Option (List ℕ)) → W s t → Vs vs ws → Natives (changes_property tw.left s vs name i x y) (changes_property tw.right t ws name i x y)
  changes-paired name i x None w rs = both_spend (length name + i) (both_write (props name) refl (answers-paired w (one_more nulls rs)))
  changes-paired name i x (Some y) w rs = both_spend (length name + (i + (1 + length y))) (both_write (props name) refl (makes_text-paired y (λ a b e. answers-paired w (one_more (objects e) rs))))

  pub system-native : (x : Native) {s t : Working} → W s t → Natives (native_system tw.left x s) (native_system tw.right x t)
  unfolding native_system
  system-native native.SystemClock w = answers-paired (record { entries = w.entries; own = ap (λ (o : Own). record o { clock = add64 o.clock (pos 1) }) w.own }) (one_more (clock-paired w) w.entries.entries.top.stack)
  system-native native.SystemGetProperty w = one_text-paired w (λ name vs ws rs. read_prop-paired name (λ c. answers_found-paired (length name) c w rs))
  system-native native.SystemSetProperty w = two_texts-paired w (λ name x vs ws rs. read_prop-paired name (λ c. changes-paired name (length x) (Some x) c w rs))
  system-native native.SystemClearProperty w = one_text-paired w (λ name vs ws rs. read_prop-paired name (λ c. changes-paired name 0 None c w rs))
  system-native _ w = stuck_row-paired tw

  pub prints_string-paired : {s t : Working} {vs ws : List Value} {v u : Value} (end : List ℕ) → W s t → Vs vs ws → V tw v u → Natives (prints_string tw.left s vs end v) (prints_string tw.right t ws end u)
  prints_string-paired end w rs (ints i) = stuck_row-paired tw
  prints_string-paired end w rs (longs i) = stuck_row-paired tw
  prints_string-paired end w rs nulls = prints-paired (codes "null" ++ end) w rs
  prints_string-paired end w rs v = on_text-paired tw _ _ w v (λ x. prints-paired (utf8_of x ++ end) w rs)

  pub on_printed-paired : {s t : Working} {k l : Value → List Value → Access (Answer Working)} → W s t → ((v u : Value) (vs ws : List Value) → V tw v u → Vs vs ws → Natives (k v vs) (l u ws)) → Natives (on_printed s k) (on_printed t l)
  on_printed-paired w f = popping-paired tw w.entries.entries.top.stack (λ a b vs ws r rs. popping-paired tw rs (λ c d us xs k ks. f a b us xs r ks))

  pub print-native : (x : Native) {s t : Working} → W s t → Natives (native_print tw.left x s) (native_print tw.right x t)
  unfolding native_print
  print-native native.PrintString w = on_printed-paired w (λ v u vs ws r rs. prints_string-paired [] w rs r)
  print-native native.PrintInt w = on_printed-paired w (λ v u vs ws r rs. on_int-paired tw r (λ i. prints-paired (signed_decimal i) w rs))
  print-native native.PrintLong w = on_printed-paired w (λ v u vs ws r rs. on_long-paired tw r (λ i. prints-paired (signed_decimal i) w rs))
  print-native native.PrintBoolean w = on_printed-paired w (λ v u vs ws r rs. on_int-paired tw r (λ i. prints-paired (boolean_text i) w rs))
  print-native native.PrintChar w = on_printed-paired w (λ v u vs ws r rs. on_int-paired tw r (λ i. prints-paired (utf8_of (char_of i ∷ [])) w rs))
  print-native native.PrintlnString w = on_printed-paired w (λ v u vs ws r rs. prints_string-paired line_feed w rs r)
  print-native native.PrintlnInt w = on_printed-paired w (λ v u vs ws r rs. on_int-paired tw r (λ i. prints-paired (signed_decimal i ++ line_feed) w rs))
  print-native native.PrintlnLong w = on_printed-paired w (λ v u vs ws r rs. on_long-paired tw r (λ i. prints-paired (signed_decimal i ++ line_feed) w rs))
  print-native native.PrintlnBoolean w = on_printed-paired w (λ v u vs ws r rs. on_int-paired tw r (λ i. prints-paired (boolean_text i ++ line_feed) w rs))
  print-native native.PrintlnChar w = on_printed-paired w (λ v u vs ws r rs. on_int-paired tw r (λ i. prints-paired (utf8_of (char_of i ∷ []) ++ line_feed) w rs))
  print-native native.Println w = popping-paired tw w.entries.entries.top.stack (λ a b vs ws r rs. prints-paired line_feed w rs)
  print-native _ w = stuck_row-paired tw

  pub files-native : (x : Native) {s t : Working} → W s t → Natives (native_files tw.left x s) (native_files tw.right x t)
  unfolding native_files
  files-native native.FilesRead w = one_text-paired w (λ name vs ws rs. read_file-paired name (λ c. answers_found-paired (length name) c w rs))
  files-native native.FilesWrite w = two_texts-paired w (λ name x vs ws rs. both_spend (length name + length x) (both_write (files name) refl (answers-paired w rs)))
  files-native native.FilesAppend w = two_texts-paired w (λ name x vs ws rs. read_file-paired name (λ c. both_spend (length name + length x) (both_write (files name) refl (answers-paired w rs))))
  files-native native.FilesDelete w = one_text-paired w (λ name vs ws rs. read_file-paired name (λ c. both_spend (length name) (both_write (files name) refl (answers-paired w (one_more (ints _) rs)))))
  files-native native.FilesExists w = one_text-paired w (λ name vs ws rs. read_file-paired name (λ c. both_spend (length name) (answers-paired w (one_more (ints _) rs))))
  files-native _ w = stuck_row-paired tw

  pub env-native : (x : Native) {s t : Working} → W s t → Natives (native_env tw.left x s) (native_env tw.right x t)
  unfolding native_env
  env-native native.EnvPrint w = popping-paired tw w.entries.entries.top.stack (λ a b vs ws r rs. on_int-paired tw r (λ i. prints-paired (signed_decimal i ++ line_feed) w rs))
  env-native native.EnvRandom w = answers-paired (record { entries = w.entries; own = ap (λ (o : Own). record o { random = stepped o.random }) w.own }) (one_more (random-paired w) w.entries.entries.top.stack)
  env-native _ w = stuck_row-paired tw

  pub by_group : (g : NativeGroup) (x : Native) {s t : Working} → W s t → Natives (native_of_group g tw.left x s) (native_of_group g tw.right x t)
  by_group of_object x w = object-native x w
  by_group of_string x w = string-native x w
  by_group of_builder x w = builder-native x w
  by_group of_system x w = system-native x w
  by_group of_stream x w = print-native x w
  by_group of_files x w = files-native x w
  by_group of_env x w = env-native x w
  by_group of_throwable x w = throwable-native x w

  pub native-paired : (x : Native) {s t : Working} → W s t → Natives (row_native tw.left x s) (row_native tw.right x t)
  unfolding row_native
  native-paired x w = by_group (native_group x) x w
