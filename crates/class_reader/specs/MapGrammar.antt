-- The grammar of stack maps (JVMS 4.7.4).
use Rattle.std.specs.Prelude.{◌≡◌, ℕ, zero, suc, ◌-◌, ◌%◌, ◌^◌, List, [], ◌∷◌, ◌++◌, Option, Bool, true, nat_lt, ◌==◌, cond}
use Rattle.std.specs.Int.{w8}
use Rattle.class_pool.specs.declared.pool.Entry.{Entry}
use Rattle.class_pool.specs.Grammar.{IsBytes, Nothing, Then, Mapped, Never, Tested, Number, Counted, Sized}
use Rattle.class_reader.specs.{declared.parts.MapType.MapType, declared.parts.MapFrame.MapFrame, declared.parts.MapPart.MapPart, Indices.Short, Indices.Index}
use Rattle.class_reader.specs.Maps.{type_of, frame_of, is_object, is_frame_tag, tells_delta, stack_given, has_bad_tag}

abbrev pub TaggedText : Bool → List (Option Entry) → ℕ → List ℕ → MapType → Type 0
TaggedText checked slots tag text t = cond (nat_lt tag 7) (Nothing (type_of tag 0) text t) (cond (tag == 7) (Mapped (type_of tag) (Index (is_object checked) slots) text t) (cond (tag == 8) (Mapped (type_of tag) Short text t) (Never text t)))

abbrev pub TypeText : Bool → List (Option Entry) → List ℕ → MapType → Type 0
TypeText checked slots = Then (Number w8 (2 ^ 8)) (λ tag. TaggedText checked slots tag)

abbrev pub GivenText : Bool → ℕ → List ℕ → ℕ → Type 0
GivenText told given text n = cond told (Short text n) (Nothing given text n)

abbrev pub TypesText : Bool → List (Option Entry) → Bool → ℕ → List ℕ → List MapType → Type 0
TypesText checked slots told given = Then (GivenText told given) (λ n. Counted (λ _ _. TypeText checked slots) [] n)

-- an entry; the classes that it names are looked at where that is checked
abbrev pub FrameText : Bool → List (Option Entry) → List ℕ → MapFrame → Type 0
FrameText checked slots = Then (Number w8 (2 ^ 8)) (λ tag. Tested (is_frame_tag tag) (Then (GivenText (tells_delta tag) (tag % 64)) (λ delta. Then (TypesText checked slots (tag == 255) (tag - 251)) (λ locals.
    Mapped (frame_of tag delta locals) (TypesText checked slots (tag == 255) (stack_given tag))))))

-- n entries; where there are fewer, the rest is kept from one with a bad tag on
abbrev pub FramesText : List (Option Entry) → ℕ → List ℕ → List MapFrame → List ℕ → Type 0
FramesText slots zero text [] rest = (text ≡ []) × (rest ≡ [])
FramesText slots zero text (f ∷ frames) rest = ⊥
FramesText slots (suc n) text [] rest = (text ≡ rest) × (has_bad_tag slots rest ≡ true) × IsBytes rest
FramesText slots (suc n) text (f ∷ frames) rest = (one more : List ℕ) × (text ≡ one ++ more) × FrameText true slots one f × FramesText slots n more frames rest

abbrev pub ContentText : List (Option Entry) → ℕ → List ℕ → MapPart → Type 0
ContentText slots n text part = (part.count ≡ n) × FramesText slots n text part.frames part.rest

-- a StackMapTable behind its name
abbrev pub MapText : List (Option Entry) → List ℕ → MapPart → Type 0
MapText slots = Sized (Then Short (ContentText slots))
