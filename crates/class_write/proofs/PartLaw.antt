-- What is spelled is spelled by what is written, too: numbers, indices, lists and attributes.
use Rattle.std.proofs.Common.{◌≡◌, ℕ, zero, suc, ◌+◌, ◌^◌, ◌<◌, ◌≤◌, ◌⊎◌, Bool, true, false, cond, List, [], ◌∷◌, ◌++◌, length, Option, Some, None, refl, sym, ap, subst, ◌∙◌, arith, inl, inr}
use Rattle.std.specs.Prelude.{slice_index_or, unwrap_or}
use Rattle.std.specs.List.{flat_map}
use Rattle.std.proofs.lemmas.{List.append-nil, List.length-append, Option.same_Some}
use Rattle.class_pool.specs.declared.pool.{Entry.Entry, Entry.TheVariants.Utf8}
use Rattle.class_pool.specs.{Pool.entry_of, Pool.is_text, Grammar.Then, Grammar.Joined, Grammar.Counted, Grammar.Chain}
use Rattle.et_base.proofs.Cases.{by_test}
use Rattle.class_reader.specs.{Indices.Short, Indices.Index, Indices.Form, ClassGrammar.OnceText, ClassGrammar.AttributeText, ClassGrammar.AttributesText}
use Rattle.class_reader.specs.{Names.is_text_of, Texts.first_from}
use Rattle.class_write.specs.Spelling.{short_bytes, listed_bytes, sized_bytes, attribute_bytes, index_of}

abbrev pub Slots : Type 0
Slots = List (Option Entry)

-- Another text that spells the same, and is no longer.
pub record Shorter {A : Type 0} (S : List ℕ → A → Type 0) (text now : List ℕ) (x : A) : Type 0 where
  pub spelled : S now x
  pub short : length now ≤ length text

-- the same text
pub shorter_same : {A : Type 0} (S : List ℕ → A → Type 0) (text now : List ℕ) (x : A) → S text x → text ≡ now → Shorter S text now x
shorter_same S text now x s e = record { spelled = subst (λ t. S t x) e s; short = omega (arith, ap length e) }

-- ---- indices

pub index_same : (fits : Option Entry → Bool) (slots : Slots) (text : List ℕ) (i : ℕ) → Index fits slots text i → text ≡ short_bytes i
index_same fits slots text i (n, one, more, e, s, (right, (none, is))) = e ∙ ap (λ m. one ++ m) none ∙ append-nil one ∙ s.0 ∙ ap short_bytes (sym is)

pub index_again : (fits : Option Entry → Bool) (slots : Slots) (text : List ℕ) (i : ℕ) → Index fits slots text i → Index fits slots (short_bytes i) i
index_again fits slots text i s = subst (λ t. Index fits slots t i) (index_same fits slots text i s) s

pub form_again : (form : Option Entry → Bool) (slots : Slots) (text : List ℕ) (i : ℕ) → Form form slots text i → Form form slots (short_bytes i) i
form_again form slots text i (n, one, more, e, s, (right, (none, is))) =
    let same : text ≡ short_bytes i = e ∙ ap (λ m. one ++ m) none ∙ append-nil one ∙ index_same is_text slots one n s ∙ ap short_bytes (sym is) in
    subst (λ t. Form form slots t i) same (n, one, more, e, s, (right, (none, is)))

-- ---- lists

pub joined_same : {A : Type 0} (S : List A → ℕ → List ℕ → A → Type 0) (view : A → List ℕ) → ((before : List A) (n : ℕ) (text : List ℕ) (x : A) → S before n text x → text ≡ view x)
    → (before : List A) (text : List ℕ) (xs : List A) → Joined S before text xs → text ≡ flat_map view xs
joined_same S view same before text [] s = s
joined_same S view same before text (x ∷ xs) (one, more, e, s, others) = e ∙ ap (λ o. o ++ more) (same before (length xs) one x s) ∙ ap (λ m. view x ++ m) (joined_same S view same (before ++ x ∷ []) more xs others)

joined_again : {A : Type 0} (S : List A → ℕ → List ℕ → A → Type 0) (view : A → List ℕ) → ((before : List A) (n : ℕ) (text : List ℕ) (x : A) → S before n text x → S before n (view x) x)
    → (before : List A) (text : List ℕ) (xs : List A) → Joined S before text xs → Joined S before (flat_map view xs) xs
joined_again S view again before text [] s = refl
joined_again S view again before text (x ∷ xs) (one, more, e, s, others) = (view x, flat_map view xs, refl, again before (length xs) one x s, joined_again S view again (before ++ x ∷ []) more xs others)

pub listed_same : {A : Type 0} (S : List A → ℕ → List ℕ → A → Type 0) (view : A → List ℕ) → ((before : List A) (n : ℕ) (text : List ℕ) (x : A) → S before n text x → text ≡ view x)
    → (text : List ℕ) (xs : List A) → Then Short (λ n. Counted S [] n) text xs → text ≡ listed_bytes view xs
listed_same S view same text xs (n, one, more, e, s, (ys, is, len, joined)) =
    e ∙ ap (λ o. o ++ more) (s.0 ∙ ap short_bytes (sym len)) ∙ ap (λ m. short_bytes (length ys) ++ m) (joined_same S view same [] more ys joined) ∙ ap (listed_bytes view) (sym is)

pub listed_again : {A : Type 0} (S : List A → ℕ → List ℕ → A → Type 0) (view : A → List ℕ) → ((before : List A) (n : ℕ) (text : List ℕ) (x : A) → S before n text x → S before n (view x) x)
    → (text : List ℕ) (xs : List A) → Then Short (λ n. Counted S [] n) text xs → Then Short (λ n. Counted S [] n) (listed_bytes view xs) xs
listed_again S view again text xs (n, one, more, e, s, (ys, is, len, joined)) =
    let few : length xs < 2 ^ 16 = omega (arith, s.1, len, ap length is) in
    let whole : Joined S [] more xs = subst (λ z. Joined S [] more z) (sym is) joined in
    (length xs, short_bytes (length xs), flat_map view xs, refl, (refl, few), (xs, refl, refl, joined_again S view again [] more xs whole))

-- ---- the name of an attribute

-- the slot k is the first that is this text, when slots are counted from i
record First (slots : Slots) (text : List ℕ) (i : ℕ) : Type 0 where
  pub k : ℕ
  pub found : first_from i slots text ≡ Some (i + k)
  pub within : k < length slots
  pub is : is_text_of text (slice_index_or slots k None) ≡ true

first_in : (slots : Slots) (text : List ℕ) (i j : ℕ) → is_text_of text (slice_index_or slots j None) ≡ true → First slots text i
first_in [] text i j h = let no : false ≡ true = h in absurd cc
first_in (slot ∷ slots) text i zero h = record { k = 0; found = ap (λ b. cond b (Some i) (first_from (i + 1) slots text)) h ∙ ap Some (omega arith); within = omega arith; is = h }
first_in (slot ∷ slots) text i (suc j) h = by_test (is_text_of text slot)
    (λ yes. record { k = 0; found = ap (λ b. cond b (Some i) (first_from (i + 1) slots text)) yes ∙ ap Some (omega arith); within = omega arith; is = yes })
    (λ no.
    let r = first_in slots text (i + 1) j h in
    record { k = suc r.k; found = ap (λ b. cond b (Some i) (first_from (i + 1) slots text)) no ∙ r.found ∙ ap Some (omega arith); within = omega (arith, r.within); is = r.is })

text_is : (text : List ℕ) (entry : Option Entry) → is_text_of text entry ≡ true → is_text entry ≡ true
text_is text (Some (Utf8 units)) h = refl
text_is text _ h = h

-- The index names the text.
pub record Names (wanted : Option Entry → Bool) (slots : Slots) (index : ℕ) : Type 0 where
  pub small : index < 2 ^ 16
  pub text : is_text (entry_of slots index) ≡ true
  pub right : wanted (entry_of slots index) ≡ true

-- Where some index names a text, the one that is written does.
pub named : (slots : Slots) (text : List ℕ) → length slots + 1 < 2 ^ 16 → (i : ℕ) → is_text_of text (entry_of slots i) ≡ true → Names (is_text_of text) slots (index_of slots text)
named slots text few zero h = let no : false ≡ true = h in absurd cc
named slots text few (suc j) h =
    let f = first_in slots text 1 j h in
    let e : index_of slots text ≡ suc f.k = ap (λ o. unwrap_or o 0) f.found ∙ omega arith in
    let made : Names (is_text_of text) slots (suc f.k) = record { small = omega (arith, f.within, few); text = text_is text (slice_index_or slots f.k None) f.is; right = f.is } in
    subst (λ n. Names (is_text_of text) slots n) (sym e) made

-- ---- attributes

once_keeps : {A : Type 0} (wanted : Bool) (S : List ℕ → A → Type 0) (y : A) (text : List ℕ) (now : Option A) → OnceText wanted S (Some y) text now → now ≡ Some y
once_keeps true S y text now s = let no : false ≡ true = s.0 in absurd cc
once_keeps false S y text now s = s.2

-- once found, it stays
chain_keeps : {A : Type 0} (wanted : Option Entry → Bool) (S : List ℕ → A → Type 0) (slots : Slots) (y : A) (n : ℕ) (text : List ℕ) (z : Option A) → Chain (AttributeText wanted S slots) (Some y) n text z → z ≡ Some y
chain_keeps wanted S slots y zero text z s = s.1
chain_keeps wanted S slots y (suc n) text z (mid, one, more, e, (name, a, b, f, i, o), others) =
    let same : mid ≡ Some y = once_keeps (wanted (entry_of slots name)) S y b mid o in
    chain_keeps wanted S slots y n more z (subst (λ m. Chain (AttributeText wanted S slots) m n more z) same others)

once_none : {A : Type 0} (wanted : Bool) (S : List ℕ → A → Type 0) (text : List ℕ) (now : Option A) → OnceText wanted S None text now → ((x : A) × (wanted ≡ true) × S text x × (now ≡ Some x)) ⊎ (now ≡ None)
once_none true S text now s = inl (s.1.0, refl, s.1.1, s.1.2)
once_none false S text now s = inr s.2

-- the attribute that is found, within these bytes
record Found {A : Type 0} (wanted : Option Entry → Bool) (S : List ℕ → A → Type 0) (slots : Slots) (text : List ℕ) (x : A) : Type 0 where
  pub name : ℕ
  pub right : wanted (entry_of slots name) ≡ true
  pub content : List ℕ
  pub spelled : S content x
  pub long : 2 + length content ≤ length text

found_in : {A : Type 0} (wanted : Option Entry → Bool) (S : List ℕ → A → Type 0) (slots : Slots) (n : ℕ) (text : List ℕ) (x : A) → Chain (AttributeText wanted S slots) None n text (Some x) → Found wanted S slots text x
found_in wanted S slots zero text x s = let no = s.1 in absurd cc
found_in {A = A} wanted S slots (suc n) text x (mid, one, more, e, (name, a, b, f, i, o), others) =
    let two : length a ≡ 2 = ap length (index_same is_text slots a name i) in
    elim (once_none (wanted (entry_of slots name)) S b mid o) [
      | inl h ↦
          let same : x ≡ h.0 = same_Some x h.0 (chain_keeps wanted S slots h.0 n more (Some x) (subst (λ m. Chain (AttributeText wanted S slots) m n more (Some x)) h.3 others)) in
          record { name = name; right = h.1; content = b; spelled = subst (λ y. S b y) (sym same) h.2; long = omega (arith, two, ap length e, ap length f, length-append one more, length-append a b) }
      | inr none ↦
          let r = found_in wanted S slots n more x (subst (λ m. Chain (AttributeText wanted S slots) m n more (Some x)) none others) in
          record { name = r.name; right = r.right; content = r.content; spelled = r.spelled; long = omega (arith, r.long, ap length e, length-append one more) }
    ]

pub attributes_again : {A : Type 0} (wanted : Option Entry → Bool) (S : List ℕ → A → Type 0) (slots : Slots) (index : ℕ) (view : A → List ℕ) → ((i : ℕ) → wanted (entry_of slots i) ≡ true → Names wanted slots index)
    → ((text : List ℕ) (x : A) → S text x → Shorter S text (sized_bytes (view x)) x) → (text : List ℕ) (found : Option A) → AttributesText wanted S slots text found → Shorter (AttributesText wanted S slots) text (attribute_bytes index view found) found
attributes_again wanted S slots index view names again text None (n, one, more, e, s, chain) = record {
  spelled = (0, short_bytes 0, [], refl, (refl, omega arith), (refl, refl));
  short = omega (arith, ap length e, length-append one more, ap length s.0);
}
attributes_again wanted S slots index view names again text (Some x) (n, one, more, e, s, chain) =
    let f = found_in wanted S slots n more x chain in
    let k = names f.name f.right in
    let r = again f.content x f.spelled in
    let whole : List ℕ = sized_bytes (view x) in
    let inside : OnceText (wanted (entry_of slots index)) S None whole (Some x) = subst (λ w. OnceText w S None whole (Some x)) (sym k.right) (refl, (x, r.spelled, refl)) in
    let name : Index is_text slots (short_bytes index) index = (index, short_bytes index, [], refl, (refl, k.small), (k.text, (refl, refl))) in
    record {
      spelled = (1, short_bytes 1, short_bytes index ++ whole, refl, (refl, omega arith), (Some x, short_bytes index ++ whole, [], sym (append-nil (short_bytes index ++ whole)), (index, short_bytes index, whole, refl, name, inside), (refl, refl)));
      short = omega (arith, r.short, f.long, ap length e, length-append one more, ap length s.0, length-append (short_bytes index) whole);
    }
