-- What is known of a method's code, its handlers and its stack map.
use Rattle.std.proofs.Common.{◌≡◌, ◌≢◌, ◌⊎◌, ℕ, zero, suc, ◌-◌, ◌%◌, ◌^◌, ◌<◌, ◌≤◌, Bool, true, false, cond, eqb, ltb, ◌&&◌, ◌||◌, List, [], ◌∷◌, length, Option, refl, sym, subst, ◌∙◌, arith, inl, inr, All}
use Rattle.std.specs.Prelude.{IfSome}
use Rattle.std.specs.List.{AllByRecursion}
use Rattle.std.proofs.lemmas.{Bool.eqb-true, Bool.ltb-true, Bool.and_parts, Bool.or_cases, List.Elements.All-from_recursion}
use Rattle.class_pool.specs.{declared.pool.Entry.Entry, Pool.entry_of, Pool.is_class, Grammar.IsBytes, Grammar.Sized, PoolGrammar.IsPool}
use Rattle.class_pool.proofs.{Laws.chosen, GrammarFacts.counted_all, GrammarFacts.counted_length, EntryFacts.NamesClass, EntryFacts.class_from}
use Rattle.code_decode.specs.{declared.decoding.Code.Code, Targets.has_start}
use Rattle.code_decode.proofs.CodeFacts.{CodeFacts, code_facts}
use Rattle.class_reader.specs.declared.parts.{CodePart.CodePart, RawHandler.RawHandler, MapType.MapType, MapFrame.MapFrame, MapPart.MapPart}
use Rattle.class_reader.specs.Handlers.{begins_at, ends_at, is_caught, handler_of, RangeText, CatchText, HandlerText, HandlersText}
use Rattle.class_reader.specs.Maps.{type_of, frame_of, is_object, is_frame_tag, tells_delta, stack_given, frame_at, has_bad_tag}
use Rattle.class_reader.specs.MapGrammar.{TaggedText, TypeText, GivenText, TypesText, FrameText, FramesText, MapText}
use Rattle.class_reader.specs.{Names.is_stack_map, ClassGrammar.RunText, ClassGrammar.part_of, ClassGrammar.PartText}
use Rattle.class_reader.proofs.AttributeFacts.{attributes_keep, index_facts}

-- ---- the facts

-- an instruction begins there, within the code
pub record Begins (code : Code) (pc : ℕ) : Type 0 where
  pub begins : has_start code.ops pc ≡ true
  pub inside : pc < code.length

-- a row of a handler table
pub record HandlerFacts (slots : List (Option Entry)) (code : Code) (h : RawHandler) : Type 0 where
  pub from : Begins code h.from
  pub to : Begins code h.to ⊎ (h.to ≡ code.length)
  pub order : h.from < h.to
  pub at : Begins code h.at
  pub caught : (h.catch_class ≡ 0) ⊎ NamesClass slots h.catch_class
  pub small : (h.from < 2 ^ 16) × (h.to < 2 ^ 16) × (h.at < 2 ^ 16) × (h.catch_class < 2 ^ 16)

-- a verification type: Object, 7, names a class
pub record TypeFacts (slots : List (Option Entry)) (t : MapType) : Type 0 where
  pub tag : t.tag < 9
  pub arg : t.arg < 2 ^ 16
  pub bare : t.tag < 7 → t.arg ≡ 0
  pub object : t.tag ≡ 7 → NamesClass slots t.arg

-- an entry of a stack map
pub record FrameFacts (slots : List (Option Entry)) (f : MapFrame) : Type 0 where
  pub tag : f.tag < 2 ^ 8
  pub is_one : is_frame_tag f.tag ≡ true
  pub delta : f.delta < 2 ^ 16
  pub delta_given : tells_delta f.tag ≡ false → f.delta ≡ f.tag % 64
  pub locals : All (TypeFacts slots) f.locals
  pub few_locals : length f.locals < 2 ^ 16
  pub locals_given : f.tag ≢ 255 → length f.locals ≡ f.tag - 251
  pub stack : All (TypeFacts slots) f.stack
  pub few_stack : length f.stack < 2 ^ 16
  pub stack_given : f.tag ≢ 255 → length f.stack ≡ stack_given f.tag

-- a stack map: where there are fewer entries than it says, something is kept
pub record MapFacts (slots : List (Option Entry)) (m : MapPart) : Type 0 where
  pub count : m.count < 2 ^ 16
  pub frames : All (FrameFacts slots) m.frames
  pub few : length m.frames ≤ m.count
  pub whole : length m.frames ≡ m.count → m.rest ≡ []
  pub cut : length m.frames < m.count → (0 < length m.rest) × (has_bad_tag slots m.rest ≡ true) × IsBytes m.rest

-- a method's code
pub record PartFacts (slots : List (Option Entry)) (part : CodePart) : Type 0 where
  pub max_stack : part.max_stack < 2 ^ 16
  pub max_locals : part.max_locals < 2 ^ 16
  pub code : CodeFacts slots part.code
  pub handlers : All (HandlerFacts slots part.code) part.handlers
  pub few_handlers : length part.handlers < 2 ^ 16
  pub map : IfSome part.map (MapFacts slots)

-- ---- handlers

begins_from : (code : Code) (pc : ℕ) → begins_at code pc ≡ true → Begins code pc
begins_from code pc h = let b = and_parts (has_start code.ops pc) (ltb pc code.length) h in record { begins = b.0; inside = ltb-true _ _ b.1 }

ends_from : (code : Code) (pc : ℕ) → ends_at code pc ≡ true → Begins code pc ⊎ (pc ≡ code.length)
ends_from code pc h = elim (or_cases (begins_at code pc) (eqb pc code.length) h) [
  | inl b ↦ inl (begins_from code pc b)
  | inr e ↦ inr (eqb-true _ _ e)
]

caught_from : (slots : List (Option Entry)) (i : ℕ) → IsPool slots → is_caught slots i ≡ true → (i ≡ 0) ⊎ NamesClass slots i
caught_from slots i pool h = elim (or_cases (eqb i 0) (is_class (entry_of slots i)) h) [
  | inl e ↦ inl (eqb-true _ _ e)
  | inr c ↦ inr (class_from slots i pool c)
]

record RangeSo (code : Code) (range : ℕ × ℕ) : Type 0 where
  from : Begins code range.0
  to : Begins code range.1 ⊎ (range.1 ≡ code.length)
  order : range.0 < range.1
  from_small : range.0 < 2 ^ 16
  to_small : range.1 < 2 ^ 16

range_so : (code : Code) (text : List ℕ) (range : ℕ × ℕ) → RangeText code text range → RangeSo code range
range_so code text range (from, t1, m1, e1, s1, (begins, (to, t2, m2, e2, s2, (ends, (less, (nil, is)))))) =
    let made : RangeSo code (from, to) = record { from = begins_from code from begins; to = ends_from code to ends; order = ltb-true _ _ less; from_small = s1.1; to_small = s2.1 } in
    subst (RangeSo code) (sym is) made

abbrev CatchSo : List (Option Entry) → ℕ → Type 0
CatchSo slots i = (i < 2 ^ 16) × ((i ≡ 0) ⊎ NamesClass slots i)

catch_so : (slots : List (Option Entry)) (text : List ℕ) (i : ℕ) → IsPool slots → CatchText slots text i → CatchSo slots i
catch_so slots text i pool (k, one, more, e, s, (right, (nil, is))) = subst (CatchSo slots) (sym is) (s.1, caught_from slots k pool right)

handler_facts : (slots : List (Option Entry)) (code : Code) → IsPool slots → (text : List ℕ) (h : RawHandler) → HandlerText slots code text h → HandlerFacts slots code h
handler_facts slots code pool text h (range, t1, m1, e1, s1, (at, t2, m2, e2, s2, (begins, (class, s3, is)))) =
    let r = range_so code t1 range s1 in
    let c = catch_so slots m2 class pool s3 in
    let made : HandlerFacts slots code (handler_of range at class) = record { from = r.from; to = r.to; order = r.order; at = begins_from code at begins; caught = c.1; small = (r.from_small, r.to_small, s2.1, c.0) } in
    subst (HandlerFacts slots code) (sym is) made

handlers_facts : (slots : List (Option Entry)) (code : Code) → IsPool slots → (text : List ℕ) (hs : List RawHandler) → HandlersText slots code text hs → All (HandlerFacts slots code) hs × (length hs < 2 ^ 16)
handlers_facts slots code pool text hs (n, one, more, e, short, counted) = (
  counted_all (λ _ _. HandlerText slots code) (HandlerFacts slots code) (λ _ _ t h s. handler_facts slots code pool t h s) n more hs counted,
  subst (λ k. k < 2 ^ 16) (sym (counted_length (λ _ _. HandlerText slots code) n more hs counted)) short.1,
)

-- ---- verification types

bare_type : (slots : List (Option Entry)) (tag : ℕ) → tag < 7 → TypeFacts slots (type_of tag 0)
bare_type slots tag lt = record { tag = omega (arith, lt); arg = omega arith; bare = λ _. refl; object = λ seven. absurd (omega (arith, lt, seven)) }

object_type : (slots : List (Option Entry)) (tag i : ℕ) → tag ≡ 7 → i < 2 ^ 16 → NamesClass slots i → TypeFacts slots (type_of tag i)
object_type slots tag i seven small class = record { tag = omega (arith, seven); arg = small; bare = λ lt. absurd (omega (arith, lt, seven)); object = λ _. class }

offset_type : (slots : List (Option Entry)) (tag i : ℕ) → tag ≡ 8 → i < 2 ^ 16 → TypeFacts slots (type_of tag i)
offset_type slots tag i eight small = record { tag = omega (arith, eight); arg = small; bare = λ lt. absurd (omega (arith, lt, eight)); object = λ seven. absurd (omega (arith, seven, eight)) }

tagged_facts : (slots : List (Option Entry)) (tag : ℕ) → IsPool slots → (text : List ℕ) (t : MapType) → TaggedText true slots tag text t → TypeFacts slots t
tagged_facts slots tag pool text t s =
    chosen (ltb tag 7) _ _ s (λ h n. subst (TypeFacts slots) (sym n.1) (bare_type slots tag (ltb-true _ _ h)))
    (λ _ s. chosen (eqb tag 7) _ _ s (λ h (i, index, is). let f = index_facts (is_object true) slots text i index in subst (TypeFacts slots) (sym is) (object_type slots tag i (eqb-true _ _ h) f.0 (class_from slots i pool f.1)))
    (λ _ s. chosen (eqb tag 8) _ _ s (λ h (i, short, is). subst (TypeFacts slots) (sym is) (offset_type slots tag i (eqb-true _ _ h) short.1))
    (λ _ s. absurd s)))

type_facts : (slots : List (Option Entry)) → IsPool slots → (text : List ℕ) (t : MapType) → TypeText true slots text t → TypeFacts slots t
type_facts slots pool text t (tag, one, more, e, s, tagged) = tagged_facts slots tag pool more t tagged

-- ---- entries

abbrev GivenSo : Bool → ℕ → ℕ → Type 0
GivenSo told given n = (n < 2 ^ 16) × (told ≡ false → n ≡ given)

given_so : (told : Bool) (given : ℕ) (text : List ℕ) (n : ℕ) → given < 2 ^ 16 → GivenText told given text n → GivenSo told given n
given_so true given text n lt s = (s.1, λ e. absurd cc)
given_so false given text n lt s = (subst (λ k. k < 2 ^ 16) (sym s.1) lt, λ _. s.1)

record TypesSo (slots : List (Option Entry)) (told : Bool) (given : ℕ) (ts : List MapType) : Type 0 where
  all : All (TypeFacts slots) ts
  few : length ts < 2 ^ 16
  given_so : told ≡ false → length ts ≡ given

types_so : (slots : List (Option Entry)) (told : Bool) (given : ℕ) → IsPool slots → given < 2 ^ 16 → (text : List ℕ) (ts : List MapType) → TypesText true slots told given text ts → TypesSo slots told given ts
types_so slots told given pool lt text ts (n, one, more, e, s, counted) =
    let g = given_so told given one n lt s in
    let len = counted_length (λ _ _. TypeText true slots) n more ts counted in
    record {
      all = counted_all (λ _ _. TypeText true slots) (TypeFacts slots) (λ _ _ t x h. type_facts slots pool t x h) n more ts counted;
      few = subst (λ k. k < 2 ^ 16) (sym len) g.0;
      given_so = λ h. len ∙ g.1 h;
    }

stack_small : (tag : ℕ) → stack_given tag < 2 ^ 16
stack_small tag = elim (eqb tag 247 || ltb 63 tag && ltb tag 128) as (λ b. cond b 1 0 < 2 ^ 16) [ true ↦ omega arith | false ↦ omega arith ]

not_full : (tag : ℕ) → tag ≢ 255 → eqb tag 255 ≡ false
not_full tag ne = elim (eqb tag 255) as (λ b. eqb tag 255 ≡ b → b ≡ false) [
  | true ↦ λ e. absurd (ne (eqb-true _ _ e))
  | false ↦ λ _. refl
] refl

frame_facts : (slots : List (Option Entry)) → IsPool slots → (text : List ℕ) (f : MapFrame) → FrameText true slots text f → FrameFacts slots f
frame_facts slots pool text f (tag, t1, m1, e1, s1, (one, (delta, t2, m2, e2, s2, (locals, t3, m3, e3, s3, (stack, s4, is))))) =
    let small : tag < 2 ^ 8 = s1.1 in
    let d = given_so (tells_delta tag) (tag % 64) t2 delta (omega arith) s2 in
    let l = types_so slots (eqb tag 255) (tag - 251) pool (omega (arith, small)) t3 locals s3 in
    let k = types_so slots (eqb tag 255) (stack_given tag) pool (stack_small tag) m3 stack s4 in
    let made : FrameFacts slots (frame_of tag delta locals stack) = record {
      tag = small;
      is_one = one;
      delta = d.0;
      delta_given = d.1;
      locals = l.all;
      few_locals = l.few;
      locals_given = λ ne. l.given_so (not_full tag ne);
      stack = k.all;
      few_stack = k.few;
      stack_given = λ ne. k.given_so (not_full tag ne);
    } in
    subst (FrameFacts slots) (sym is) made

-- ---- the map

-- no entry is read from nothing, so nothing has no bad tag
some_kept : (slots : List (Option Entry)) (rest : List ℕ) → has_bad_tag slots rest ≡ true → 0 < length rest
unfolding has_bad_tag frame_at
some_kept slots [] h = absurd cc
some_kept slots (b ∷ rest) h = omega arith

record FramesSo (slots : List (Option Entry)) (n : ℕ) (frames : List MapFrame) (rest : List ℕ) : Type 0 where
  all : AllByRecursion (FrameFacts slots) frames
  few : length frames ≤ n
  whole : length frames ≡ n → rest ≡ []
  cut : length frames < n → (0 < length rest) × (has_bad_tag slots rest ≡ true) × IsBytes rest

frames_so : (slots : List (Option Entry)) → IsPool slots → (n : ℕ) (text : List ℕ) (frames : List MapFrame) (rest : List ℕ) → FramesText slots n text frames rest → FramesSo slots n frames rest
frames_so slots pool zero text [] rest s = record { all = tt; few = omega arith; whole = λ _. s.1; cut = λ lt. absurd (omega (arith, lt)) }
frames_so slots pool zero text (f ∷ frames) rest s = absurd s
frames_so slots pool (suc n) text [] rest s = record { all = tt; few = omega arith; whole = λ e. absurd (omega (arith, e)); cut = λ _. (some_kept slots rest s.1, s.1, s.2) }
frames_so slots pool (suc n) text (f ∷ frames) rest (one, more, e, s, others) =
    let so : FramesSo slots n frames rest = frames_so slots pool n more frames rest others in
    let few : length frames ≤ n = so.few in
    record {
      all = (frame_facts slots pool one f s, so.all);
      few = omega (arith, few);
      whole = λ same. so.whole (omega (arith, same));
      cut = λ less. so.cut (omega (arith, less));
    }

map_facts : (slots : List (Option Entry)) → IsPool slots → (text : List ℕ) (m : MapPart) → MapText slots text m → MapFacts slots m
map_facts slots pool text m (content, e, lt, (n, t1, m1, e1, s1, (is, frames))) =
    let so : FramesSo slots m.count m.frames m.rest = subst (λ k. FramesSo slots k m.frames m.rest) (sym is) (frames_so slots pool n m1 m.frames m.rest frames) in
    record { count = subst (λ k. k < 2 ^ 16) (sym is) s1.1; frames = All-from_recursion (FrameFacts slots) m.frames so.all; few = so.few; whole = so.whole; cut = so.cut }

-- ---- the code of a method

run_length : (text run : List ℕ) → RunText text run → (0 < length run) × (length run < 2 ^ 16)
run_length text run (n, one, more, e, s, (fits, r)) =
    let b = and_parts (ltb 0 n) (ltb n 65536) fits in
    (subst (λ k. 0 < k) (sym r.1) (ltb-true _ _ b.0), subst (λ k. k < 2 ^ 16) (sym r.1) (ltb-true _ _ b.1))

part_facts_of : (slots : List (Option Entry)) → IsPool slots → (text : List ℕ) (part : CodePart) → PartText slots text part → PartFacts slots part
part_facts_of slots pool text part (stack, t1, m1, e1, s1, (locals, t2, m2, e2, s2, (run, t3, m3, e3, s3, (code, spelled, (handlers, t4, m4, e4, s4, (map, s5, is)))))) =
    let len = run_length t3 run s3 in
    let h = handlers_facts slots code pool t4 handlers s4 in
    let made : PartFacts slots (part_of stack locals code handlers map) = record {
      max_stack = s1.1;
      max_locals = s2.1;
      code = code_facts slots run code len.0 len.1 spelled;
      handlers = h.0;
      few_handlers = h.1;
      map = attributes_keep is_stack_map (MapText slots) slots (MapFacts slots) (map_facts slots pool) m4 map s5;
    } in
    subst (PartFacts slots) (sym is) made

pub part_facts : (slots : List (Option Entry)) → IsPool slots → (text : List ℕ) (part : CodePart) → Sized (PartText slots) text part → PartFacts slots part
part_facts slots pool text part (content, e, lt, s) = part_facts_of slots pool content part s
