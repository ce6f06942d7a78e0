-- Stack maps, constants and handlers are spelled in one way.
use Rattle.std.proofs.Common.{◌≡◌, ℕ, zero, suc, ◌-◌, ◌%◌, Bool, true, false, cond, eqb, ltb, ◌||◌, List, [], ◌∷◌, ◌++◌, length, sym, ap, subst, ◌∙◌, append_assoc, arith}
use Rattle.std.specs.{List.flat_map, Int.w8, Int.w32, Int.to_be_bytes}
use Rattle.std.proofs.lemmas.{Bool.eqb-true, List.append-nil, Bool.Decides.nat_tests}
use Rattle.class_pool.specs.{Grammar.Nothing, Grammar.Mapped, Grammar.Never, Pool.entry_of}
use Rattle.et_base.proofs.Cases.{by_test}
use Rattle.code_decode.specs.declared.decoding.Code.{Code}
use Rattle.class_reader.specs.declared.parts.{RawHandler.RawHandler, MapType.MapType, MapFrame.MapFrame, MapPart.MapPart}
use Rattle.class_reader.specs.{Indices.Short, Indices.Index, Names.fits_constant, ClassGrammar.ConstantText}
use Rattle.class_reader.specs.Maps.{type_of, is_object, tells_delta, stack_given}
use Rattle.class_reader.specs.MapGrammar.{TaggedText, TypeText, GivenText, TypesText, FrameText, FramesText, MapText}
use Rattle.class_reader.specs.Handlers.{RangeText, CatchText, HandlerText, HandlersText}
use Rattle.class_write.specs.Spelling.{short_bytes, listed_bytes, sized_bytes, type_bytes, types_bytes, frame_bytes, map_bytes, handler_bytes}
use Rattle.class_write.proofs.PartLaw.{Slots, index_same, joined_same, listed_same}

-- ---- types

abbrev arg_bytes : ℕ → ℕ → List ℕ
arg_bytes tag arg = cond (eqb tag 7 || eqb tag 8) (short_bytes arg) []

below_seven : (tag : ℕ) → ltb tag 7 ≡ true → (eqb tag 7 || eqb tag 8) ≡ false
below_seven tag lt = grind (arith, nat_tests)

-- a type behind its tag
record Typed (tag : ℕ) (text : List ℕ) (t : MapType) : Type 0 where
  pub tag_is : t.tag ≡ tag
  pub same : text ≡ arg_bytes tag t.arg

tagged_same : (checked : Bool) (slots : Slots) (tag : ℕ) (text : List ℕ) (t : MapType) → TaggedText checked slots tag text t → Typed tag text t
tagged_same checked slots tag text t s =
    let objects : List ℕ → MapType → Type 0 = Mapped (type_of tag) (Index (is_object checked) slots) in
    let offsets : List ℕ → MapType → Type 0 = Mapped (type_of tag) Short in
    by_test (ltb tag 7)
    (λ below.
    let w : Nothing (type_of tag 0) text t = subst (λ a. cond a (Nothing (type_of tag 0) text t) (cond (eqb tag 7) (objects text t) (cond (eqb tag 8) (offsets text t) (Never text t)))) below s in
    record { tag_is = ap (λ (t : MapType). t.tag) w.1; same = w.0 ∙ ap (λ b. cond b (short_bytes t.arg) []) (sym (below_seven tag below)) })
    (λ above.
    let w : cond (eqb tag 7) (objects text t) (cond (eqb tag 8) (offsets text t) (Never text t)) = subst (λ a. cond a (Nothing (type_of tag 0) text t) (cond (eqb tag 7) (objects text t) (cond (eqb tag 8) (offsets text t) (Never text t)))) above s in
    by_test (eqb tag 7)
    (λ seven.
    let u : objects text t = subst (λ a. cond a (objects text t) (cond (eqb tag 8) (offsets text t) (Never text t))) seven w in
    let test : (eqb tag 7 || eqb tag 8) ≡ true = ap (λ b. b || eqb tag 8) seven in
    record { tag_is = ap (λ (t : MapType). t.tag) u.2; same = index_same (is_object checked) slots text u.0 u.1 ∙ ap short_bytes (sym (ap (λ (t : MapType). t.arg) u.2)) ∙ ap (λ b. cond b (short_bytes t.arg) []) (sym test) })
    (λ other.
    let v : cond (eqb tag 8) (offsets text t) (Never text t) = subst (λ a. cond a (objects text t) (cond (eqb tag 8) (offsets text t) (Never text t))) other w in
    by_test (eqb tag 8)
    (λ eight.
    let u : offsets text t = subst (λ a. cond a (offsets text t) (Never text t)) eight v in
    let test : (eqb tag 7 || eqb tag 8) ≡ true = ap (λ b. b || eqb tag 8) other ∙ eight in
    record { tag_is = ap (λ (t : MapType). t.tag) u.2; same = u.1.0 ∙ ap short_bytes (sym (ap (λ (t : MapType). t.arg) u.2)) ∙ ap (λ b. cond b (short_bytes t.arg) []) (sym test) })
    (λ none. let u : Never text t = subst (λ a. cond a (offsets text t) (Never text t)) none v in absurd u)))

type_same : (checked : Bool) (slots : Slots) (text : List ℕ) (t : MapType) → TypeText checked slots text t → text ≡ type_bytes t
type_same checked slots text t (tag, one, more, e, s, tagged) =
    let w = tagged_same checked slots tag more t tagged in
    e ∙ ap (λ o. o ++ more) s.0 ∙ ap (λ m. to_be_bytes w8 tag ++ m) w.same ∙ ap (λ k. to_be_bytes w8 k ++ arg_bytes k t.arg) (sym w.tag_is)

given_same : (told : Bool) (given : ℕ) (text : List ℕ) (n : ℕ) → GivenText told given text n → text ≡ cond told (short_bytes n) []
given_same true given text n s = s.0
given_same false given text n s = s.0

types_same : (checked : Bool) (slots : Slots) (tag given : ℕ) (text : List ℕ) (ts : List MapType) → TypesText checked slots (eqb tag 255) given text ts → text ≡ types_bytes tag ts
types_same checked slots tag given text ts (n, one, more, e, s, (ys, is, len, joined)) =
    e ∙ ap (λ o. o ++ more) (given_same (eqb tag 255) given one n s ∙ ap (λ k. cond (eqb tag 255) (short_bytes k) []) (sym len))
    ∙ ap (λ m. cond (eqb tag 255) (short_bytes (length ys)) [] ++ m) (joined_same (λ _ _. TypeText checked slots) type_bytes (λ before k b t. type_same checked slots b t) [] more ys joined)
    ∙ ap (types_bytes tag) (sym is)

-- ---- entries

frame_same : (slots : Slots) (text : List ℕ) (f : MapFrame) → FrameText true slots text f → text ≡ frame_bytes f
frame_same slots text f (tag, one, more, e, s, (good, (delta, a, b, g, d, (locals, c, x, h, l, (stack, k, is))))) =
    let told : a ≡ cond (tells_delta tag) (short_bytes delta) [] = given_same (tells_delta tag) (tag % 64) a delta d in
    let both : b ≡ types_bytes tag locals ++ types_bytes tag stack = h ∙ ap (λ o. o ++ x) (types_same true slots tag (tag - 251) c locals l) ∙ ap (λ m. types_bytes tag locals ++ m) (types_same true slots tag (stack_given tag) x stack k) in
    e ∙ ap (λ o. o ++ more) s.0 ∙ ap (λ m. to_be_bytes w8 tag ++ m) (g ∙ ap (λ o. o ++ b) told ∙ ap (λ m. cond (tells_delta tag) (short_bytes delta) [] ++ m) both) ∙ ap frame_bytes (sym is)

frames_same : (slots : Slots) (n : ℕ) (text : List ℕ) (frames : List MapFrame) (rest : List ℕ) → FramesText slots n text frames rest → text ≡ flat_map frame_bytes frames ++ rest
frames_same slots zero text [] rest s = s.0 ∙ sym s.1
frames_same slots zero text (f ∷ frames) rest s = absurd s
frames_same slots (suc n) text [] rest s = s.0
frames_same slots (suc n) text (f ∷ frames) rest (one, more, e, s, others) =
    e ∙ ap (λ o. o ++ more) (frame_same slots one f s) ∙ ap (λ m. frame_bytes f ++ m) (frames_same slots n more frames rest others) ∙ sym (append_assoc (frame_bytes f) (flat_map frame_bytes frames) rest)

pub map_same : (slots : Slots) (text : List ℕ) (m : MapPart) → MapText slots text m → text ≡ sized_bytes (map_bytes m)
map_same slots text m (content, e, lt, (n, one, more, f, s, (is, frames))) =
    let inner : content ≡ map_bytes m = f ∙ ap (λ o. o ++ more) (s.0 ∙ ap short_bytes (sym is)) ∙ ap (λ x. short_bytes m.count ++ x) (frames_same slots n more m.frames m.rest frames) in
    e ∙ ap sized_bytes inner

-- ---- constants

pub constant_same : (slots : Slots) (descriptor : ℕ) (text : List ℕ) (i : ℕ) → ConstantText slots descriptor text i → text ≡ sized_bytes (short_bytes i)
constant_same slots descriptor text i (n, one, more, e, s, (two, index)) =
    e ∙ ap (λ o. o ++ more) (s.0 ∙ ap (to_be_bytes w32) (eqb-true _ _ two)) ∙ ap (λ m. to_be_bytes w32 2 ++ m) (index_same (fits_constant (entry_of slots descriptor)) slots more i index)

-- ---- handlers

range_same : (code : Code) (text : List ℕ) (range : ℕ × ℕ) → RangeText code text range → text ≡ short_bytes range.0 ++ short_bytes range.1
range_same code text range (from, one, more, e, s, (begins, (to, two, rest, f, t, (ends, (some, (none, is)))))) =
    e ∙ ap (λ o. o ++ more) s.0 ∙ ap (λ m. short_bytes from ++ m) (f ∙ ap (λ m. two ++ m) none ∙ append-nil two ∙ t.0) ∙ ap (λ (p : ℕ × ℕ). short_bytes p.0 ++ short_bytes p.1) (sym is)

catch_same : (slots : Slots) (text : List ℕ) (i : ℕ) → CatchText slots text i → text ≡ short_bytes i
catch_same slots text i (n, one, more, e, s, (right, (none, is))) = e ∙ ap (λ m. one ++ m) none ∙ append-nil one ∙ s.0 ∙ ap short_bytes (sym is)

handler_same : (slots : Slots) (code : Code) (text : List ℕ) (h : RawHandler) → HandlerText slots code text h → text ≡ handler_bytes h
handler_same slots code text h (range, one, more, e, r, (at, a, b, f, s, (begins, (class, c, is)))) =
    let second : more ≡ short_bytes at ++ short_bytes class = f ∙ ap (λ o. o ++ b) s.0 ∙ ap (λ m. short_bytes at ++ m) (catch_same slots b class c) in
    e ∙ ap (λ o. o ++ more) (range_same code one range r) ∙ ap (λ m. (short_bytes range.0 ++ short_bytes range.1) ++ m) second ∙ ap handler_bytes (sym is)

pub handlers_same : (slots : Slots) (code : Code) (text : List ℕ) (hs : List RawHandler) → HandlersText slots code text hs → text ≡ listed_bytes handler_bytes hs
handlers_same slots code text hs s = listed_same (λ _ _. HandlerText slots code) handler_bytes (λ before n b h. handler_same slots code b h) text hs s
