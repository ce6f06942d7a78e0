-- What a field or a line says is what its text says.
use Rattle.std.proofs.Common.{◌≡◌, ◌⊎◌, ℕ, ◌<◌, ◌≤◌, ◌^◌, Bool, true, false, not, cond, eqb, ◌&&◌, List, [], ◌∷◌, ◌++◌, length, map, Option, Some, None, Result, Ok, Err, refl, sym, ap, ◌∙◌, inl, inr, arith}
use Rattle.std.specs.Prelude.{codes, decimal}
use Rattle.std.specs.{Option.option_map, Option.option_and_then, List.join_with_byte, Str.bytes_eq, Str.all_ascii_digits, Str.Parse.digits_value}
use Rattle.std.proofs.lemmas.Bool.{and_parts, or_parts, leb-true}
use Rattle.std.proofs.lemmas.{Option.cond_some, Option.same_Some, Fmt.decimal-digits_value, List.append-nil}
use Rattle.std.proofs.lemmas.Str.Parse.{IsNumeralModel, numerals_by_value, tells_all_ascii_digits}
use Rattle.std.proofs.{lemmas.List.Splits.join_with_byte-slice_split, lemmas.Slice.Eq.bytes_eq-Decides}
use Rattle.hex.specs.Hex.{encode_lower, decode_sized}
use Rattle.hex.specs.declared.error.FromHexError.{FromHexError}
use Rattle.order_law.specs.declared.edges.{Edge.Edge, EdgeKind.EdgeKind, EdgeKind.TheVariants.Raw, EdgeKind.TheVariants.Waw, EdgeKind.TheVariants.War}
use Rattle.order_law.specs.declared.records.Reach.{Reach}
use Rattle.order_law.specs.RecordForm.{is_edge, is_reach}
use Rattle.dep_record.specs.RecordText.{worded, header_line, state_word, kind_word, numbers_text, class_line, units_line, reach_line, edge_line}
use Rattle.dep_record.specs.Fields.{cut, after, after_number, digits_up_to, number_up_to, number_of, numbers_of, numbers_in, same_hash, hash_of, header_of, hash_after, number_after, class_of, units_of, state_of, reach_from, reach_of, kind_of, number_first, edge_of, follows, edge_if, next_edge}
use Rattle.dep_record.proofs.CutLaws.{cut_whole}

-- ---- options

pub some_went : {A B : Type 0} (o : Option A) (f : A → Option B) (y : B) → option_and_then f o ≡ Some y → (x : A) × (o ≡ Some x) × (f x ≡ Some y)
some_went None f y h = absurd cc
some_went (Some x) f y h = (x, refl, h)

pub some_mapped : {A B : Type 0} (o : Option A) (f : A → B) (y : B) → option_map f o ≡ Some y → (x : A) × (o ≡ Some x) × (f x ≡ y)
some_mapped None f y h = absurd cc
some_mapped (Some x) f y h = (x, refl, same_Some (f x) y h)

some_chosen : {A : Type 0} (b : Bool) (x y : A) (o : Option A) → cond b (Some x) o ≡ Some y → ((b ≡ true) × (x ≡ y)) ⊎ (o ≡ Some y)
some_chosen true x y o h = inl (refl, same_Some x y h)
some_chosen false x y o h = inr h

pub none_chosen : {A : Type 0} (b : Bool) (o : Option A) (y : A) → cond b None o ≡ Some y → (b ≡ false) × (o ≡ Some y)
none_chosen true o y h = absurd cc
none_chosen false o y h = (refl, h)

either : {A B C : Type 0} → A ⊎ B → (A → C) → (B → C) → C
either (inl a) f g = f a
either (inr b) f g = g b

same_bytes : (x y : List ℕ) → bytes_eq x y ≡ true → x ≡ y
same_bytes x y h = (bytes_eq-Decides x y).0 h

-- ---- words

pub after_said : (word line rest : List ℕ) → after word line ≡ Some rest → line ≡ worded word rest
unfolding after
after_said word line rest h =
    let a = some_went (cut 32 line) _ rest h in
    let b = cond_some _ a.0.1 rest a.2 in
    cut_whole 32 line a.0 a.1 ∙ ap (λ w. w ++ 32 ∷ a.0.1) (same_bytes a.0.0 word b.0) ∙ ap (worded word) b.1

pub after_number_said : (word : List ℕ) (n : ℕ) (line rest : List ℕ) → after_number word n line ≡ Some rest → line ≡ worded word (worded (decimal n) rest)
after_number_said word n line rest h =
    let a = some_went (after word line) (after (decimal n)) rest h in
    after_said word line a.0 a.1 ∙ ap (worded word) (after_said (decimal n) a.0 rest a.2)

pub header_said : (line : List ℕ) (newer : Bool) → header_of line ≡ Some newer → line ≡ header_line newer
unfolding header_of
header_said line newer h =
    either (some_chosen _ true newer _ h)
    (λ p. same_bytes line (codes "electric-record 2") p.0 ∙ ap header_line p.1)
    (λ q. let r = cond_some _ false newer q in same_bytes line (codes "electric-record 1") r.0 ∙ ap header_line r.1)

state_said : (word : List ℕ) (settled : Bool) → state_of word ≡ Some settled → word ≡ state_word settled
unfolding state_of
state_said word settled h =
    either (some_chosen _ true settled _ h)
    (λ p. same_bytes word (codes "settled") p.0 ∙ ap state_word p.1)
    (λ q. let r = cond_some _ false settled q in same_bytes word (codes "open") r.0 ∙ ap state_word r.1)

kind_said : (word : List ℕ) (kind : EdgeKind) → kind_of word ≡ Some kind → word ≡ kind_word kind
unfolding kind_of
kind_said word kind h =
    either (some_chosen _ Raw kind _ h)
    (λ p. same_bytes word (codes "raw") p.0 ∙ ap kind_word p.1)
    (λ q. either (some_chosen _ Waw kind _ q)
    (λ p. same_bytes word (codes "waw") p.0 ∙ ap kind_word p.1)
    (λ r. let s = cond_some _ War kind r in same_bytes word (codes "war") s.0 ∙ ap kind_word s.1))

-- ---- numbers

pub own : IsNumeralModel (λ ds. all_ascii_digits ds ≡ true) (digits_value 10)
own = numerals_by_value _ tells_all_ascii_digits

leading : (b : ℕ) (bs : List ℕ) → (eqb b 48 && not (eqb (length (b ∷ bs)) 1)) ≡ false → b ≡ 48 → length (b ∷ bs) ≡ 1
leading b [] h e = refl
leading b (c ∷ bs) h e = absurd (grind (arith))

pub number_said : (most : ℕ) (bytes : List ℕ) (n : ℕ) → most < 2 ^ 64 → number_up_to most bytes ≡ Some n → (bytes ≡ decimal n) × (n ≤ most)
unfolding number_up_to digits_up_to
number_said most [] n fits h = absurd cc
number_said most (b ∷ bs) n fits h =
    let a = none_chosen _ _ n h in
    let d = cond_some _ (digits_value 10 (b ∷ bs)) n a.1 in
    let each = and_parts _ _ d.0 in
    let le : digits_value 10 (b ∷ bs) ≤ most = leb-true _ _ each.1 in
    let one = (or_parts _ _ a.0).1 in
    (sym (decimal-digits_value own (b ∷ bs) each.0 (omega arith) (leading b bs one) (omega (arith, le))) ∙ ap decimal d.1, omega (arith, le, d.1))

pub number_of_said : (bytes : List ℕ) (n : ℕ) → number_of bytes ≡ Some n → bytes ≡ decimal n
number_of_said bytes n h = (number_said 4294967295 bytes n (omega arith) h).0

numbers_of_said : (ps : List (List ℕ)) (ns : List ℕ) → numbers_of ps ≡ Some ns → ps ≡ map decimal ns
numbers_of_said [] ns h = ap (map decimal) (same_Some [] ns h)
numbers_of_said (p ∷ ps) ns h =
    let a = some_went (number_of p) _ ns h in
    let b = some_mapped (numbers_of ps) _ ns a.2 in
    ap (λ q. q ∷ ps) (number_of_said p a.0 a.1) ∙ ap (λ qs. decimal a.0 ∷ qs) (numbers_of_said ps b.0 b.1) ∙ ap (map decimal) b.2

join_more : (n : ℕ) (ns : List ℕ) → join_with_byte 44 (map decimal (n ∷ ns)) ≡ numbers_text (n ∷ ns)
join_more n [] = sym (append-nil (decimal n))
join_more n (m ∷ ns) = ap (λ t. decimal n ++ 44 ∷ t) (join_more m ns)

pub join_numbers : (ns : List ℕ) → join_with_byte 44 (map decimal ns) ≡ numbers_text ns
join_numbers [] = refl
join_numbers (n ∷ ns) = join_more n ns

numbers_said : (text : List ℕ) (ns : List ℕ) → numbers_in text ≡ Some ns → text ≡ numbers_text ns
numbers_said text ns h = sym (join_with_byte-slice_split 44 text) ∙ ap (join_with_byte 44) (numbers_of_said _ ns h) ∙ join_numbers ns

-- ---- sums

hash_by : (text hash : List ℕ) (read : Result (List ℕ) FromHexError) → same_hash text read ≡ Some hash → text ≡ encode_lower hash
hash_by text hash (Ok found) h = let a = cond_some _ found hash h in sym (same_bytes _ text a.0) ∙ ap encode_lower a.1
hash_by text hash (Err e) h = absurd cc

hash_said : (text hash : List ℕ) → hash_of text ≡ Some hash → text ≡ encode_lower hash
unfolding hash_of
hash_said text hash h = hash_by text hash (decode_sized text 32) h

pub hash_after_said : (word line hash : List ℕ) → hash_after word line ≡ Some hash → line ≡ worded word (encode_lower hash)
unfolding hash_after
hash_after_said word line hash h =
    let a = some_went (after word line) hash_of hash h in
    after_said word line a.0 a.1 ∙ ap (worded word) (hash_said a.0 hash a.2)

pub number_after_said : (word line : List ℕ) (n : ℕ) → number_after 1024 word line ≡ Some n → (line ≡ worded word (decimal n)) × (n ≤ 1024)
unfolding number_after
number_after_said word line n h =
    let a = some_went (after word line) (number_up_to 1024) n h in
    let b = number_said 1024 a.0 n (omega arith) a.2 in
    (after_said word line a.0 a.1 ∙ ap (worded word) b.0, b.1)

-- ---- lines

pub class_said : (j : ℕ) (line hash : List ℕ) → class_of j line ≡ Some hash → line ≡ class_line j hash
unfolding class_of
class_said j line hash h =
    let a = some_went (after_number (codes "class") j line) hash_of hash h in
    after_number_said (codes "class") j line a.0 a.1 ∙ ap (λ t. worded (codes "class") (worded (decimal j) t)) (hash_said a.0 hash a.2)

pub units_said : (i : ℕ) (line : List ℕ) (n : ℕ) → units_of i line ≡ Some n → (line ≡ units_line i n) × (n ≤ 2 ^ 26)
unfolding units_of
units_said i line n h =
    let a = some_went (after_number (codes "units") i line) (number_up_to (2 ^ 26)) n h in
    let b = number_said (2 ^ 26) a.0 n (omega arith) a.2 in
    (after_number_said (codes "units") i line a.0 a.1 ∙ ap (λ t. worded (codes "units") (worded (decimal i) t)) b.0, b.1)

reach_from_said : (c : ℕ) (text : List ℕ) (r : Reach) → reach_from c text ≡ Some r → (text ≡ worded (state_word r.settled) (numbers_text r.classes)) × (is_reach c r ≡ true)
unfolding reach_from
reach_from_said c text r h =
    let a = some_went (cut 32 text) _ r h in
    let b = some_went (state_of a.0.0) _ r a.2 in
    let d = some_went (numbers_in a.0.1) _ r b.2 in
    let e = cond_some _ _ r d.2 in (
      cut_whole 32 text a.0 a.1 ∙ ap (λ w. w ++ 32 ∷ a.0.1) (state_said a.0.0 b.0 b.1) ∙ ap (worded (state_word b.0)) (numbers_said a.0.1 d.0 d.1)
          ∙ ap (λ (x : Reach). worded (state_word x.settled) (numbers_text x.classes)) e.1,
      sym (ap (is_reach c) e.1) ∙ e.0,
    )

pub reach_said : (c i : ℕ) (line : List ℕ) (r : Reach) → reach_of c i line ≡ Some r → (line ≡ reach_line i r) × (is_reach c r ≡ true)
unfolding reach_of
reach_said c i line r h =
    let a = some_went (after_number (codes "reach") i line) (reach_from c) r h in
    let b = reach_from_said c a.0 r a.2 in
    (after_number_said (codes "reach") i line a.0 a.1 ∙ ap (λ t. worded (codes "reach") (worded (decimal i) t)) b.0, b.1)

number_first_said : (text : List ℕ) (x : ℕ × List ℕ) → number_first text ≡ Some x → text ≡ worded (decimal x.0) x.1
unfolding number_first
number_first_said text x h =
    let a = some_went (cut 32 text) _ x h in
    let b = some_mapped (number_of a.0.0) _ x a.2 in
    cut_whole 32 text a.0 a.1 ∙ ap (λ w. w ++ 32 ∷ a.0.1) (number_of_said a.0.0 b.0 b.1) ∙ ap (λ (y : ℕ × List ℕ). worded (decimal y.0) y.1) b.2

edge_of_said : (line : List ℕ) (e : Edge) → edge_of line ≡ Some e → line ≡ edge_line e
unfolding edge_of
edge_of_said line e h =
    let a = some_went (cut 32 line) _ e h in
    let k = some_went (kind_of a.0.0) _ e a.2 in
    let x = some_went (number_first a.0.1) _ e k.2 in
    let y = some_went (number_first x.0.1) _ e x.2 in
    let z = some_mapped (number_first y.0.1) _ e y.2 in
    cut_whole 32 line a.0 a.1 ∙ ap (λ w. w ++ 32 ∷ a.0.1) (kind_said a.0.0 k.0 k.1)
    ∙ ap (worded (kind_word k.0)) (number_first_said a.0.1 x.0 x.1)
    ∙ ap (λ t. worded (kind_word k.0) (worded (decimal x.0.0) t)) (number_first_said x.0.1 y.0 y.1)
    ∙ ap (λ t. worded (kind_word k.0) (worded (decimal x.0.0) (worded (decimal y.0.0) t))) (number_first_said y.0.1 z.0 z.1)
    ∙ ap edge_line z.2

pub next_edge_said : (tests : ℕ) (before : Option Edge) (line : List ℕ) (e : Edge) → next_edge tests before line ≡ Some e → (line ≡ edge_line e) × (is_edge tests e ≡ true) × (follows before e ≡ true)
unfolding next_edge
next_edge_said tests before line e h =
    let a = some_went (edge_of line) (edge_if tests before) e h in
    let b = cond_some _ a.0 e a.2 in
    let d = and_parts _ _ b.0 in
    (edge_of_said line a.0 a.1 ∙ ap edge_line b.1, sym (ap (is_edge tests) b.1) ∙ d.0, sym (ap (follows before) b.1) ∙ d.1)
