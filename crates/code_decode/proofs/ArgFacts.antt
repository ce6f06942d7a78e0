-- What is known of an instruction's operands, form by form.
use Rattle.std.proofs.Common.{◌≡◌, ℕ, zero, suc, ◌+◌, ◌-◌, ◌*◌, ◌%◌, ◌^◌, ◌<◌, ◌≤◌, ℤ, pos, negsuc, ◌+ℤ◌, ◌≤ℤ◌, ◌<ℤ◌, int_le, int_lt, FitsSigned, Bool, true, false, not, eqb, ltb, ◌||◌, List, [], ◌∷◌, ◌++◌, length, get_or, Option, Some, refl, sym, ap, subst, ◌∙◌, arith, All, T}
use Rattle.std.specs.List.{list_all, enumerate_from}
use Rattle.std.specs.Int.{Width, w8, w16, w32, byte_len, cast_signed}
use lib.Signed.{le_z_yes, lt_z_yes}
use borrow.Author.Gap.{read_sfits}
use Rattle.std.proofs.lemmas.Bool.{eq-eqb, ltb-true, leb-true, and_parts, Decides.nat_tests}
use Rattle.std.proofs.lemmas.{List.FromFn.length-enumerate_from, List.FromFn.get_or-enumerate_from, Int.ints, List.length-append}
use Rattle.std.proofs.lemmas.List.Elements.{All-nil, All-push}
use Rattle.class_pool.specs.{declared.pool.Entry.Entry, Pool.entry_of}
use Rattle.et_base.proofs.Cases.{implied}
use Rattle.class_pool.proofs.GrammarFacts.{chain_counts}
use Rattle.code_decode.specs.declared.{instructions.RawOp.RawOp, judging.Fit.Fit}
use Rattle.code_decode.specs.declared.judging.Fit.TheVariants as fit
use Rattle.code_decode.specs.declared.opcodes.{Shape.Shape, Named.TheVariants.Nested, Named.TheVariants.Interface}
use Rattle.code_decode.specs.declared.opcodes.Shape.TheVariants as shape
use Rattle.code_decode.specs.Judging.{constant_fit, named_fit, kind_fit, class_name, dimensions, interface_units, counts_units}
use Rattle.code_decode.specs.{Switches.span, Switches.keys_rise, Targets.has_start, Targets.is_start, Targets.is_place, Targets.leads}
use Rattle.code_decode.specs.CodeGrammar.{OneText, IncrementText, is_right, FittingText, InterfaceText, DimensionsText, WordText, EndsText, TableText, PairText, PairsText, LookupText, ArgsText}

-- ---- the facts

-- a place where one of the instructions begins, below total
pub record IsPlace (ops : List RawOp) (total : ℕ) (z : ℤ) : Type 0 where
  pub at : ℕ
  pub is : z ≡ pos at
  pub begins : has_start ops at ≡ true
  pub inside : at < total

-- one signed number of this width
pub record OneSigned (w : Width) (args : List ℤ) : Type 0 where
  pub value : ℤ
  pub is : args ≡ value ∷ []
  pub fits : FitsSigned w value

-- one number below a limit, which is so
pub record OneNumber (limit : ℕ) (P : ℕ → Type 0) (args : List ℤ) : Type 0 where
  pub value : ℕ
  pub is : args ≡ pos value ∷ []
  pub small : value < limit
  pub so : P value

-- a local variable below a limit
abbrev pub OneLocal : ℕ → List ℤ → Type 0
OneLocal limit = OneNumber limit (λ _. Unit {0})

-- a local variable below a limit, and what is added to it
pub record LocalPlus (limit : ℕ) (w : Width) (args : List ℤ) : Type 0 where
  pub local : ℕ
  pub by : ℤ
  pub is : args ≡ pos local ∷ by ∷ []
  pub small : local < limit
  pub fits : FitsSigned w by

-- an index of two bytes and a number of one byte, which are so
pub record IndexCount (P : ℕ → ℕ → Type 0) (args : List ℤ) : Type 0 where
  pub index : ℕ
  pub count : ℕ
  pub is : args ≡ pos index ∷ pos count ∷ []
  pub small : index < 2 ^ 16
  pub few : count < 2 ^ 8
  pub so : P index count

-- an interface's method, and the units of its arguments with the object
abbrev pub CallsInterface : List (Option Entry) → ℕ → ℕ → Type 0
CallsInterface slots index count = (named_fit Interface slots (entry_of slots index) ≡ fit.Right) × (counts_units (interface_units slots (entry_of slots index)) count ≡ true)

-- an array class, and how many of its dimensions are made
abbrev pub MakesArrays : List (Option Entry) → ℕ → ℕ → Type 0
MakesArrays slots index count = (named_fit Nested slots (entry_of slots index) ≡ fit.Right) × (0 < count) × (count ≤ dimensions (class_name slots (entry_of slots index)))

-- a place
pub record OnePlace (ops : List RawOp) (total : ℕ) (args : List ℤ) : Type 0 where
  pub to : ℤ
  pub is : args ≡ to ∷ []
  pub place : IsPlace ops total to

-- tableswitch: the other place, the ends, and a place for each number from one to the other
pub record TableFacts (ops : List RawOp) (total : ℕ) (args : List ℤ) : Type 0 where
  pub other : ℤ
  pub low : ℤ
  pub high : ℤ
  pub places : List ℤ
  pub is : args ≡ other ∷ low ∷ high ∷ places
  pub other_place : IsPlace ops total other
  pub low_fits : FitsSigned w32 low
  pub high_fits : FitsSigned w32 high
  pub order : low ≤ℤ high
  pub count : length places ≡ span low high
  pub all_places : All (IsPlace ops total) places

-- keys and places in turn
abbrev pub in_turn : List (ℤ × ℤ) → List ℤ
in_turn [] = []
in_turn (p ∷ ps) = p.0 ∷ p.1 ∷ in_turn ps

-- each key is above the one before it
abbrev pub KeysRise : List (ℤ × ℤ) → Type 0
KeysRise [] = Unit {0}
KeysRise (p ∷ []) = Unit {0}
KeysRise (p ∷ q ∷ ps) = (p.0 <ℤ q.0) × KeysRise (q ∷ ps)

-- lookupswitch: the other place, and keys with their places
pub record LookupFacts (ops : List RawOp) (total : ℕ) (args : List ℤ) : Type 0 where
  pub other : ℤ
  pub pairs : List (ℤ × ℤ)
  pub is : args ≡ other ∷ in_turn pairs
  pub other_place : IsPlace ops total other
  pub few : length pairs < 2 ^ 31
  pub keys_fit : All (λ p. FitsSigned w32 p.0) pairs
  pub rise : KeysRise pairs
  pub all_places : All (λ p. IsPlace ops total p.1) pairs

-- the operands of each form, among the instructions of a code of total bytes
abbrev pub ArgFacts : List (Option Entry) → List RawOp → ℕ → Shape → List ℤ → Type 0
ArgFacts slots ops total shape.Plain args = args ≡ []
ArgFacts slots ops total shape.Byte args = OneSigned w8 args
ArgFacts slots ops total shape.Short args = OneSigned w16 args
ArgFacts slots ops total shape.Local args = OneLocal (2 ^ 8) args
ArgFacts slots ops total shape.Increment args = LocalPlus (2 ^ 8) w8 args
ArgFacts slots ops total (shape.Near constant) args = OneNumber (2 ^ 8) (λ n. constant_fit constant (entry_of slots n) ≡ fit.Right) args
ArgFacts slots ops total (shape.Far constant) args = OneNumber (2 ^ 16) (λ n. constant_fit constant (entry_of slots n) ≡ fit.Right) args
ArgFacts slots ops total (shape.Entry named) args = OneNumber (2 ^ 16) (λ n. named_fit named slots (entry_of slots n) ≡ fit.Right) args
ArgFacts slots ops total shape.Interface args = IndexCount (CallsInterface slots) args
ArgFacts slots ops total shape.Kind args = OneNumber (2 ^ 8) (λ n. kind_fit n ≡ fit.Right) args
ArgFacts slots ops total shape.Dimensions args = IndexCount (MakesArrays slots) args
ArgFacts slots ops total shape.Branch args = OnePlace ops total args
ArgFacts slots ops total shape.FarBranch args = OnePlace ops total args
ArgFacts slots ops total shape.Table args = TableFacts ops total args
ArgFacts slots ops total shape.Lookup args = LookupFacts ops total args

-- ---- one number or two

pub right_is : (f : Fit) → is_right f ≡ true → f ≡ fit.Right
right_is fit.Right h = refl
right_is fit.Wrong h = absurd cc
right_is fit.Foreign h = absurd cc

signed_facts : (w : Width) (text : List ℕ) (args : List ℤ) → OneText w (λ n. cast_signed w n) text args → OneSigned w args
signed_facts w text args (n, s, is) = record { value = cast_signed w n; is = is; fits = read_sfits w n }

pub local_facts : (w : Width) (text : List ℕ) (args : List ℤ) → OneText w (λ n. pos n) text args → OneLocal (2 ^ (8 * byte_len w)) args
local_facts w text args (n, s, is) = record { value = n; is = is; small = s.1; so = tt }

pub increment_facts : (w : Width) (text : List ℕ) (args : List ℤ) → IncrementText w text args → LocalPlus (2 ^ (8 * byte_len w)) w args
increment_facts w text args (local, one, more, e, s, (by, t, is)) = record { local = local; by = cast_signed w by; is = is; small = s.1; fits = read_sfits w by }

fitting_facts : (w : Width) (fits : ℕ → Fit) (text : List ℕ) (args : List ℤ) → FittingText w fits text args → OneNumber (2 ^ (8 * byte_len w)) (λ n. fits n ≡ fit.Right) args
fitting_facts w fits text args (n, one, more, e, s, (right, (none, is))) = record { value = n; is = is; small = s.1; so = right_is (fits n) right }

interface_facts : (slots : List (Option Entry)) (text : List ℕ) (args : List ℤ) → InterfaceText slots text args → IndexCount (CallsInterface slots) args
interface_facts slots text args (n, one, more, e, s, (count, two, rest, f, t, (last, three, end, g, u, (right, (fits, (none, is)))))) =
    record { index = n; count = count; is = is; small = s.1; few = t.1; so = (right_is _ right, (and_parts _ _ fits).0) }

dimensions_facts : (slots : List (Option Entry)) (text : List ℕ) (args : List ℤ) → DimensionsText slots text args → IndexCount (MakesArrays slots) args
dimensions_facts slots text args (n, one, more, e, s, (count, two, rest, f, t, (right, (fits, (none, is))))) =
    let b = and_parts _ _ fits in
    record { index = n; count = count; is = is; small = s.1; few = t.1; so = (right_is _ right, ltb-true _ _ b.0, leb-true _ _ b.1) }

-- ---- places

start_place : (ops : List RawOp) (total : ℕ) (z : ℤ) → is_start ops total z ≡ true → IsPlace ops total z
start_place ops total (pos n) h = let b = and_parts (has_start ops n) (ltb n total) h in record { at = n; is = refl; begins = b.0; inside = ltb-true _ _ b.1 }
start_place ops total (negsuc n) h = absurd cc

all_at : {A : Type 0} (test : A → Bool) (xs : List A) (i : ℕ) (d : A) → list_all test xs ≡ true → i < length xs → test (get_or xs i d) ≡ true
all_at test [] i d h lt = absurd (omega arith)
all_at test (x ∷ xs) zero d h lt = (and_parts (test x) (list_all test xs) h).0
all_at test (x ∷ xs) (suc i) d h lt = all_at test xs i d (and_parts (test x) (list_all test xs) h).1 (omega arith)

from_zero : (i : ℕ) → 0 + i ≡ i
from_zero i = omega arith

-- a test of each operand with its place
numbered_at : (test : ℕ × ℤ → Bool) (args : List ℤ) (i : ℕ) (d : ℤ) → list_all test (enumerate_from 0 args) ≡ true → i < length args → test (i, get_or args i d) ≡ true
numbered_at test args i d h lt =
    let inside : i < length (enumerate_from 0 args) = omega (arith, lt, length-enumerate_from 0 args) in
    let here : get_or (enumerate_from 0 args) i (0, d) ≡ (i, get_or args i d) = get_or-enumerate_from 0 args i (0, d) lt ∙ ap (λ (k : ℕ). (k, get_or args i d)) (from_zero i) in
    ap test (sym here) ∙ all_at test (enumerate_from 0 args) i (0, d) h inside

place_at : (ops : List RawOp) (total : ℕ) (form : Shape) (args : List ℤ) (i : ℕ) (d : ℤ) → leads (Some form) (is_start ops total) args ≡ true → i < length args → is_place (Some form) i ≡ true → IsPlace ops total (get_or args i d)
place_at ops total form args i d h lt there =
    start_place ops total (get_or args i d) (implied (is_place (Some form) i) (is_start ops total (get_or args i d)) (numbered_at (λ p. not (is_place (Some form) p.0) || is_start ops total p.1) args i d h lt) there)

branch_facts : (w : Width) (view : ℕ → ℤ) (ops : List RawOp) (total : ℕ) (form : Shape) → is_place (Some form) 0 ≡ true → (text : List ℕ) (args : List ℤ) → OneText w view text args → leads (Some form) (is_start ops total) args ≡ true → OnePlace ops total args
branch_facts w view ops total form there text args (n, s, is) h =
    let g : leads (Some form) (is_start ops total) (view n ∷ []) ≡ true = ap (leads (Some form) (is_start ops total)) (sym is) ∙ h in
    record { to = view n; is = is; place = place_at ops total form (view n ∷ []) 0 (pos 0) g (omega arith) there }

-- ---- tableswitch

word_fits : (text : List ℕ) (z : ℤ) → WordText text z → FitsSigned w32 z
word_fits text z (n, s, is) = subst (FitsSigned w32) (sym is) (read_sfits w32 n)

ordered : (a b : ℤ) → int_le a b ≡ true → a ≤ℤ b
ordered a b h = le_z_yes (subst T (sym h) tt)

strictly : (a b : ℤ) → int_lt a b ≡ true → a <ℤ b
strictly a b h = lt_z_yes (subst T (sym h) tt)

abbrev EndsSo : ℤ × ℤ → Type 0
EndsSo ends = FitsSigned w32 ends.0 × FitsSigned w32 ends.1 × (ends.0 ≤ℤ ends.1)

ends_facts : (text : List ℕ) (ends : ℤ × ℤ) → EndsText text ends → EndsSo ends
ends_facts text ends (low, t1, m1, e1, s1, (high, t2, m2, e2, s2, (order, (nil, is)))) = subst EndsSo (sym is) (word_fits t1 low s1, word_fits t2 high s2, ordered low high order)

row_index : (k : ℕ) → is_place (Some shape.Table) (suc (suc (suc k))) ≡ true
row_index k =
    let one : eqb (suc (suc (suc k))) 1 ≡ false = grind (arith, nat_tests) in
    let two : eqb (suc (suc (suc k))) 2 ≡ false = grind (arith, nat_tests) in
    rw (one, two) refl

table_made : (ops : List RawOp) (total : ℕ) (other : ℤ) (ends : ℤ × ℤ) (xs : List ℤ) → EndsSo ends → length xs ≡ span ends.0 ends.1 → leads (Some shape.Table) (is_start ops total) (other ∷ ends.0 ∷ ends.1 ∷ xs) ≡ true → TableFacts ops total (other ∷ ends.0 ∷ ends.1 ∷ xs)
table_made ops total other ends xs so len h = record {
  other = other;
  low = ends.0;
  high = ends.1;
  places = xs;
  is = refl;
  other_place = place_at ops total shape.Table (other ∷ ends.0 ∷ ends.1 ∷ xs) 0 other h (omega arith) refl;
  low_fits = so.0;
  high_fits = so.1;
  order = so.2;
  count = len;
  all_places = λ k d lt. place_at ops total shape.Table (other ∷ ends.0 ∷ ends.1 ∷ xs) (suc (suc (suc k))) d h (omega arith) (row_index k);
}

table_facts : (ops : List RawOp) (total pc : ℕ) (text : List ℕ) (args : List ℤ) → TableText total pc text args → leads (Some shape.Table) (is_start ops total) args ≡ true → TableFacts ops total args
table_facts ops total pc text args (other, t1, m1, e1, s1, (ends, t2, m2, e2, s2, (xs, is, len, joined))) h =
    subst (TableFacts ops total) (sym is) (table_made ops total other ends xs (ends_facts t2 ends s2) len (ap (leads (Some shape.Table) (is_start ops total)) (sym is) ∙ h))

span_end : (low high : ℤ) (n : ℕ) → low ≤ℤ high → FitsSigned w32 high → n ≡ span low high → (low +ℤ pos n) ≤ℤ pos (2 ^ 31)
span_end low high n order fits e = omega (arith, ints)

-- the number past the highest is at most 2^31, and there is a place at least
pub table_end : (ops : List RawOp) (total : ℕ) (args : List ℤ) → (t : TableFacts ops total args) → ((t.low +ℤ pos (length t.places)) ≤ℤ pos (2 ^ 31)) × (0 < length t.places)
table_end ops total args t = (span_end t.low t.high (length t.places) t.order t.high_fits t.count, omega (arith, t.count))

-- ---- lookupswitch

turn_key : (ps : List (ℤ × ℤ)) (k : ℕ) (z : ℤ) (d : ℤ × ℤ) → k < length ps → get_or (in_turn ps) (k + k) z ≡ (get_or ps k d).0
turn_key [] k z d lt = absurd (omega arith)
turn_key (p ∷ ps) zero z d lt = refl
turn_key (p ∷ ps) (suc k) z d lt = let two : suc k + suc k ≡ suc (suc (k + k)) = omega arith in ap (λ i. get_or (in_turn (p ∷ ps)) i z) two ∙ turn_key ps k z d (omega arith)

turn_to : (ps : List (ℤ × ℤ)) (k : ℕ) (z : ℤ) (d : ℤ × ℤ) → k < length ps → get_or (in_turn ps) (suc (k + k)) z ≡ (get_or ps k d).1
turn_to [] k z d lt = absurd (omega arith)
turn_to (p ∷ ps) zero z d lt = refl
turn_to (p ∷ ps) (suc k) z d lt = let two : suc (suc k + suc k) ≡ suc (suc (suc (k + k))) = omega arith in ap (λ i. get_or (in_turn (p ∷ ps)) i z) two ∙ turn_to ps k z d (omega arith)

length_turn : (ps : List (ℤ × ℤ)) → length (in_turn ps) ≡ length ps + length ps
length_turn [] = refl
length_turn (p ∷ ps) = let h : length (in_turn ps) ≡ length ps + length ps = length_turn ps in omega (arith, h)

turn_push : (ps : List (ℤ × ℤ)) (key to : ℤ) → in_turn ps ++ key ∷ to ∷ [] ≡ in_turn (ps ++ (key, to) ∷ [])
turn_push [] key to = refl
turn_push (p ∷ ps) key to = ap (λ xs. p.0 ∷ p.1 ∷ xs) (turn_push ps key to)

-- the operands after k pairs
record Paired (other : ℤ) (k : ℕ) (args : List ℤ) : Type 0 where
  pairs : List (ℤ × ℤ)
  is : args ≡ other ∷ in_turn pairs
  count : length pairs ≡ k
  fits : All (λ p. FitsSigned w32 p.0) pairs

pair_more : (total pc : ℕ) (other : ℤ) (k : ℕ) (args : List ℤ) (text : List ℕ) (now : List ℤ) → Paired other k args → PairText total pc args text now → Paired other (suc k) now
pair_more total pc other k args text now p (key, t1, m1, e1, s1, (to, s2, is)) = record {
  pairs = p.pairs ++ (key, to) ∷ [];
  is = is ∙ ap (λ xs. xs ++ key ∷ to ∷ []) p.is ∙ ap (λ xs. other ∷ xs) (turn_push p.pairs key to);
  count = omega (arith, p.count, length-append p.pairs ((key, to) ∷ []));
  fits = All-push (λ p. FitsSigned w32 p.0) p.pairs (key, to) p.fits (word_fits t1 key s1);
}

pairs_facts : (total pc : ℕ) (other : ℤ) (text : List ℕ) (args : List ℤ) → PairsText total pc other text args → (n : ℕ) × (n < 2 ^ 31) × Paired other n args
pairs_facts total pc other text args (n, t1, m1, e1, (m, t2, m2, e2, s2, (few, (nil, is))), chain) =
    let none : Paired other 0 (other ∷ []) = record { pairs = []; is = refl; count = refl; fits = All-nil (λ p. FitsSigned w32 p.0) } in
    let all : Paired other (0 + n) args = chain_counts (PairText total pc) (Paired other) (pair_more total pc other) 0 (other ∷ []) n m1 args none chain in
    (n, subst (λ k. k < 2 ^ 31) (sym is) (ltb-true _ _ few), subst (λ k. Paired other k args) (from_zero n) all)

third : (a b c : Bool) → (a || b || c) ≡ true → a ≡ false → b ≡ false → c ≡ true
third true b c h p q = absurd cc
third false true c h p q = absurd cc
third false false c h p q = h

abbrev rising : List ℤ → ℕ × ℤ → Bool
rising args p = ltb p.0 3 || eqb (p.0 % 2) 0 || int_lt (get_or args (p.0 - 2) (pos 0)) p.1

odd_index : (k : ℕ) → eqb (suc (suc (suc (k + k))) % 2) 0 ≡ false
odd_index k = grind (arith, nat_tests)

keys_step : (other : ℤ) (ps : List (ℤ × ℤ)) → keys_rise (other ∷ in_turn ps) ≡ true → (k : ℕ) (d : ℤ × ℤ) → suc k < length ps → (get_or ps k d).0 <ℤ (get_or ps (suc k) d).0
keys_step other ps h k d lt =
    let args : List ℤ = other ∷ in_turn ps in
    let i : ℕ = suc (suc (suc (k + k))) in
    let inside : i < length args = omega (arith, length_turn ps, lt) in
    let low : ltb i 3 ≡ false = grind (arith, nat_tests) in
    let odd : eqb (i % 2) 0 ≡ false = odd_index k in
    let test : int_lt (get_or args (i - 2) (pos 0)) (get_or args i (pos 0)) ≡ true = third (ltb i 3) (eqb (i % 2) 0) _ (numbered_at (rising args) args i (pos 0) h inside) low odd in
    let back : i - 2 ≡ suc (k + k) = omega arith in
    let before : get_or args (i - 2) (pos 0) ≡ (get_or ps k d).0 = ap (λ j. get_or args j (pos 0)) back ∙ turn_key ps k (pos 0) d (omega (arith, lt)) in
    let two : suc (suc (k + k)) ≡ suc k + suc k = omega arith in
    let here : get_or args i (pos 0) ≡ (get_or ps (suc k) d).0 = ap (λ j. get_or (in_turn ps) j (pos 0)) two ∙ turn_key ps (suc k) (pos 0) d lt in
    strictly _ _ (sym (ap (λ a. int_lt a (get_or ps (suc k) d).0) before) ∙ sym (ap (λ b. int_lt (get_or args (i - 2) (pos 0)) b) here) ∙ test)

rises_from : (ps : List (ℤ × ℤ)) → ((k : ℕ) (d : ℤ × ℤ) → suc k < length ps → (get_or ps k d).0 <ℤ (get_or ps (suc k) d).0) → KeysRise ps
rises_from [] h = tt
rises_from (p ∷ []) h = tt
rises_from (p ∷ q ∷ ps) h = (h 0 p (omega arith), rises_from (q ∷ ps) (λ k d lt. h (suc k) d (omega arith)))

even_index : (k : ℕ) → is_place (Some shape.Lookup) (suc (suc (k + k))) ≡ true
even_index k = eq-eqb _ _ (omega arith)

lookup_made : (ops : List RawOp) (total : ℕ) (other : ℤ) (n : ℕ) (args : List ℤ) → n < 2 ^ 31 → (p : Paired other n args) → keys_rise (other ∷ in_turn p.pairs) ≡ true → leads (Some shape.Lookup) (is_start ops total) (other ∷ in_turn p.pairs) ≡ true → LookupFacts ops total args
lookup_made ops total other n args lt p rise h = record {
  other = other;
  pairs = p.pairs;
  is = p.is;
  other_place = place_at ops total shape.Lookup (other ∷ in_turn p.pairs) 0 other h (omega arith) refl;
  few = subst (λ k. k < 2 ^ 31) (sym p.count) lt;
  keys_fit = p.fits;
  rise = rises_from p.pairs (keys_step other p.pairs rise);
  all_places = λ k d inside.
      subst (IsPlace ops total) (turn_to p.pairs k d.1 d inside) (place_at ops total shape.Lookup (other ∷ in_turn p.pairs) (suc (suc (k + k))) d.1 h (omega (arith, inside, length_turn p.pairs)) (even_index k));
}

lookup_facts : (ops : List RawOp) (total pc : ℕ) (text : List ℕ) (args : List ℤ) → LookupText total pc text args → leads (Some shape.Lookup) (is_start ops total) args ≡ true → LookupFacts ops total args
lookup_facts ops total pc text args (other, t1, m1, e1, s1, (made, t2, m2, e2, s2, (rise, (nil, is)))) h =
    let p = pairs_facts total pc other t2 made s2 in
    subst (LookupFacts ops total) (sym is) (lookup_made ops total other p.0 made p.1 p.2 (ap keys_rise (sym p.2.is) ∙ rise) (ap (leads (Some shape.Lookup) (is_start ops total)) (sym (is ∙ p.2.is)) ∙ h))

-- ---- every form

pub arg_facts : (slots : List (Option Entry)) (ops : List RawOp) (total pc : ℕ) (form : Shape) (text : List ℕ) (args : List ℤ) → ArgsText slots total pc form text args → leads (Some form) (is_start ops total) args ≡ true → ArgFacts slots ops total form args
arg_facts slots ops total pc shape.Plain text args s h = s.1
arg_facts slots ops total pc shape.Byte text args s h = signed_facts w8 text args s
arg_facts slots ops total pc shape.Short text args s h = signed_facts w16 text args s
arg_facts slots ops total pc shape.Local text args s h = local_facts w8 text args s
arg_facts slots ops total pc shape.Increment text args s h = increment_facts w8 text args s
arg_facts slots ops total pc (shape.Near constant) text args s h = fitting_facts w8 (λ n. constant_fit constant (entry_of slots n)) text args s
arg_facts slots ops total pc (shape.Far constant) text args s h = fitting_facts w16 (λ n. constant_fit constant (entry_of slots n)) text args s
arg_facts slots ops total pc (shape.Entry named) text args s h = fitting_facts w16 (λ n. named_fit named slots (entry_of slots n)) text args s
arg_facts slots ops total pc shape.Interface text args s h = interface_facts slots text args s
arg_facts slots ops total pc shape.Kind text args s h = fitting_facts w8 kind_fit text args s
arg_facts slots ops total pc shape.Dimensions text args s h = dimensions_facts slots text args s
arg_facts slots ops total pc shape.Branch text args s h = branch_facts w16 _ ops total shape.Branch refl text args s h
arg_facts slots ops total pc shape.FarBranch text args s h = branch_facts w32 _ ops total shape.FarBranch refl text args s h
arg_facts slots ops total pc shape.Table text args s h = table_facts ops total pc text args s h
arg_facts slots ops total pc shape.Lookup text args s h = lookup_facts ops total pc text args s h
