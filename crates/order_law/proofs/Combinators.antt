-- One lemma for each combinator of the rows: over pairs it gives pairs.
use Rattle.std.proofs.Common.{◌≡◌, ℕ, ℤ, Bool, true, false, cond, List, refl, subst, arith}
use Rattle.jvm_model.specs.declared.values.{Value.Value, InitState.InitState}
use Rattle.jvm_model.specs.declared.values.InitState.TheVariants.{Idle, Running, Done, Erroneous}
use Rattle.jvm_model.specs.{declared.values.Kind.Kind, declared.program.Program.Program, Access.Access, Access.spend, Access.bind, Classes.literal_at}
use Rattle.jvm_model.specs.Entries.{Entries}
use Rattle.jvm_model.specs.Builtin.{null_pointer_exception, no_class_error, stack_overflow_error, stream_class, string_class}
use Rattle.jvm_model.specs.Rows.{Answer, none_here, faults, goes_on, goes_to, popping, on_int, on_long, on_object, on_reference, constant_kind, with_kind, on_text, Used, begun_at, begin, once, using}
use Rattle.order_law.specs.Pairing.{PairedList, no_more, one_more, PairedValue, ints, longs, nulls, literals, objects, inits, heads, texts, PairedKind, class_kinds, Paired, both_done, both_read, both_write, both_make, both_spend}
use Rattle.order_law.specs.{Numbers.Numbers, Numbers.Tested, Numbers.with_places, Matched.MatchedCode, Matched.MatchedStarts}
use Rattle.order_law.proofs.{Lists.test-paired, Twins.Twins, Programs.next_place-paired, Programs.trivial-paired, Programs.pick-class}
use Rattle.order_law.proofs.States.{PairedEntries, PairedFrame, go, fault, PairedAnswer, answered, no_rows, PairedUsed, both_ready, both_begun, both_refused, stack-paired, place-paired, full-paired, entry-paired, class_entry-paired}

module _ (tw : Twins) where
  abbrev n : Numbers
  n = tw.numbers

  abbrev P : ℕ → ℕ → Type 0
  P = tw.place

  abbrev p : Program
  p = tw.left

  abbrev q : Program
  q = tw.right

  abbrev mt : MatchedCode tw.numbers tw.left tw.right
  mt = tw.matched

  -- values in pairs
  abbrev pub V : Value → Value → Type 0
  V = PairedValue (with_places tw.numbers tw.place)

  -- entries in pairs
  abbrev pub E : Entries → Entries → Type 0
  E = PairedEntries tw.numbers tw.place

  -- entries in pairs whose top is a frame
  abbrev pub Frames : Entries → Entries → Type 0
  Frames = PairedFrame tw.numbers tw.place

  -- answers in pairs, with what they leave in relations
  abbrev pub Answers : {S : Type 0} → (S → S → Type 0) → (S → S → Type 0) → Access (Answer S) → Access (Answer S) → Type 0
  Answers Q G a b = Paired (with_places tw.numbers tw.place) (PairedAnswer tw.numbers tw.place Q G) a b

  -- rows in pairs
  abbrev pub Rows : Access (Answer Entries) → Access (Answer Entries) → Type 0
  Rows a b = Answers E Frames a b

  pub bind-paired : {A B C D : Type 0} {R : A → B → Type 0} {S : C → D → Type 0} {a : Access A} {b : Access B} {f : A → Access C} {g : B → Access D} →
      Paired (with_places n P) R a b → ((x : A) (y : B) → R x y → Paired (with_places n P) S (f x) (g y)) → Paired (with_places n P) S (bind a f) (bind b g)
  bind-paired (both_done r) h = h _ _ r
  bind-paired (both_read l k) h = both_read l (λ c d r. bind-paired (k c d r) h)
  bind-paired (both_write l c r) h = both_write l c (bind-paired r h)
  bind-paired (both_make o k) h = both_make o (λ a b r. bind-paired (k a b r) h)
  bind-paired (both_spend i r) h = both_spend i (bind-paired r h)

  pub choose-paired : {A B : Type 0} {R : A → B → Type 0} (b c : Bool) {w x : Access A} {y z : Access B} → b ≡ c → Paired (with_places n P) R w y → Paired (with_places n P) R x z →
      Paired (with_places n P) R (cond b w x) (cond c y z)
  choose-paired true true e f g = f
  choose-paired false false e f g = g
  choose-paired _ _ e f g = absurd (cc)

  pub spend-paired : {A B : Type 0} {R : A → B → Type 0} {i j : ℕ} {a : Access A} {b : Access B} → i ≡ j → Paired (with_places n P) R a b → Paired (with_places n P) R (spend i a) (spend j b)
  spend-paired {R = R} {i = i} {a = a} {b = b} e r = subst (λ (z : ℕ). Paired (with_places n P) R (spend i a) (spend z b)) e (both_spend i r)

  pub stuck_row-paired : {S : Type 0} {Q G : S → S → Type 0} → Answers Q G none_here none_here
  stuck_row-paired = both_done no_rows

  pub faults-paired : {S : Type 0} {Q G : S → S → Type 0} {c d : ℕ} {s t : S} → n.class c d ≡ true → Q s t → Answers Q G (faults c s) (faults d t)
  faults-paired e r = both_done (answered (fault e) r)

  pub goes_to-paired : {s t : Entries} {vs ws : List Value} {a b : ℕ} → a ≡ b → Frames s t → PairedList V vs ws → Rows (goes_to a s vs) (goes_to b t ws)
  goes_to-paired e f r = both_done (answered go (place-paired n P (stack-paired n P f r) e).entries)

  pub goes_on-paired : {s t : Entries} {vs ws : List Value} → Frames s t → PairedList V vs ws → Rows (goes_on p s vs) (goes_on q t ws)
  goes_on-paired f r = goes_to-paired (next_place-paired n p q mt _ _ _ _ f.method f.entries.top.pc) f r

  pub popping-paired : {S : Type 0} {Q G : S → S → Type 0} {vs ws : List Value} {k l : Value → List Value → Access (Answer S)} → PairedList V vs ws →
      ((v w : Value) (us xs : List Value) → V v w → PairedList V us xs → Answers Q G (k v us) (l w xs)) → Answers Q G (popping vs k) (popping ws l)
  popping-paired no_more f = both_done no_rows
  popping-paired (one_more r rs) f = f _ _ _ _ r rs

  pub on_int-paired : {S : Type 0} {Q G : S → S → Type 0} {v w : Value} {k l : ℤ → Access (Answer S)} → V v w → ((i : ℤ) → Answers Q G (k i) (l i)) → Answers Q G (on_int v k) (on_int w l)
  on_int-paired (ints i) f = f i
  on_int-paired _ f = both_done no_rows

  pub on_long-paired : {S : Type 0} {Q G : S → S → Type 0} {v w : Value} {k l : ℤ → Access (Answer S)} → V v w → ((i : ℤ) → Answers Q G (k i) (l i)) → Answers Q G (on_long v k) (on_long w l)
  on_long-paired (longs i) f = f i
  on_long-paired _ f = both_done no_rows

  pub null_throws : n.class null_pointer_exception null_pointer_exception ≡ true
  null_throws = mt.builtin null_pointer_exception (omega arith)

  pub on_object-paired : {S : Type 0} {Q G : S → S → Type 0} {v w : Value} {k l : ℕ → Access (Answer S)} (s t : S) → Q s t → V v w → ((a b : ℕ) → P a b → Answers Q G (k a) (l b)) →
      Answers Q G (on_object s v k) (on_object t w l)
  on_object-paired s t r (ints i) f = both_done no_rows
  on_object-paired s t r (longs i) f = both_done no_rows
  on_object-paired s t r nulls f = both_done (answered (fault null_throws) r)
  on_object-paired s t r (literals e) f = both_done no_rows
  on_object-paired s t r (objects {a} {b} x) f = f a b x

  pub on_reference-paired : {S : Type 0} {Q G : S → S → Type 0} {v w : Value} {k l : Access (Answer S)} (s t : S) → Q s t → V v w → Answers Q G k l → Answers Q G (on_reference s v k) (on_reference t w l)
  on_reference-paired s t r (ints i) f = both_done no_rows
  on_reference-paired s t r (longs i) f = both_done no_rows
  on_reference-paired s t r nulls f = both_done (answered (fault null_throws) r)
  on_reference-paired s t r _ f = f

  pub constant_kind-paired : (a b : ℕ) → n.literal a b ≡ true → PairedKind (Tested n.class) (constant_kind a) (constant_kind b)
  constant_kind-paired a b e = class_kinds (pick-class n p q mt _ _ (test-paired mt.one_literal a b 0 0 e mt.stream) (mt.builtin stream_class (omega arith)) (mt.builtin string_class (omega arith)))

  pub with_kind-paired : {S : Type 0} {Q G : S → S → Type 0} {v w : Value} {k l : Kind → Access (Answer S)} → V v w → ((x y : Kind) → PairedKind (Tested n.class) x y → Answers Q G (k x) (l y)) →
      Answers Q G (with_kind v k) (with_kind w l)
  with_kind-paired (ints i) f = both_done no_rows
  with_kind-paired (longs i) f = both_done no_rows
  with_kind-paired nulls f = both_done no_rows
  with_kind-paired (literals {n = a} {k = b} e) f = f _ _ (constant_kind-paired a b e)
  with_kind-paired (objects x) f = both_read (heads x) (λ h k r. f h.kind k.kind r.kind)

  pub on_text-paired : {S : Type 0} {Q G : S → S → Type 0} {v w : Value} {k l : List ℕ → Access (Answer S)} (s t : S) → Q s t → V v w → ((x : List ℕ) → Answers Q G (k x) (l x)) →
      Answers Q G (on_text p s v k) (on_text q t w l)
  on_text-paired s t r (ints i) f = both_done no_rows
  on_text-paired s t r (longs i) f = both_done no_rows
  on_text-paired s t r nulls f = both_done (answered (fault null_throws) r)
  on_text-paired {Q = Q} {G = G} {k = k} {l = l} s t r (literals {n = a} {k = b} e) f = subst (λ (x : List ℕ). Answers Q G (k (literal_at p a)) (l x)) (mt.texts a b e) (f (literal_at p a))
  on_text-paired {Q = Q} {G = G} {k = k} {l = l} s t r (objects x) f = both_read (texts x) (λ c d e. subst (λ (y : List ℕ). Answers Q G (k c) (l y)) e (f c))

  -- use of a class
  pub begun_at-paired : (c d : ℕ) {s t : Entries} (x : InitState) → n.class c d ≡ true → PairedEntries n P s t → Paired (with_places n P) (PairedUsed n P) (begun_at c s x) (begun_at d t x)
  begun_at-paired c d {s} {t} Idle e r = choose-paired _ _ (full-paired n P r) (both_done (both_refused (mt.builtin stack_overflow_error (omega arith))))
      (both_write (inits e) refl (both_done (both_begun (entry-paired n P (class_entry-paired n P c d e) r))))
  begun_at-paired c d Erroneous e r = both_done (both_refused (mt.builtin no_class_error (omega arith)))
  begun_at-paired c d _ e r = both_done both_ready

  pub once-paired : {s t : Entries} {k l : Access (Answer Entries)} → PairedEntries n P s t → Rows k l → {x y : Used} → PairedUsed n P x y → Rows (once s k x) (once t l y)
  once-paired r f both_ready = f
  once-paired r f (both_begun e) = both_done (answered go e)
  once-paired r f (both_refused e) = both_done (answered (fault e) r)

  -- use of a class, where classes start alike
  module _ (st : MatchedStarts tw.numbers tw.left tw.right) where
    pub begin-paired : (c d : ℕ) {s t : Entries} → n.class c d ≡ true → PairedEntries n P s t → Paired (with_places n P) (PairedUsed n P) (begin p c s) (begin q d t)
    unfolding begin
    begin-paired c d {s} {t} e r = choose-paired _ _ (trivial-paired n p q mt st c d e) (both_done both_ready)
        (both_read (inits e) (λ x y g. subst (λ (z : InitState). Paired (with_places n P) (PairedUsed n P) (begun_at c s x) (begun_at d t z)) g (begun_at-paired c d x e r)))

    pub using-paired : (c d : ℕ) {s t : Entries} {k l : Access (Answer Entries)} → n.class c d ≡ true → PairedEntries n P s t → Rows k l → Rows (using p c s k) (using q d t l)
    using-paired c d e r f = bind-paired (begin-paired c d e r) (λ x y u. once-paired r f u)
