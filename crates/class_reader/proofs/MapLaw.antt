-- Stack maps: what is read is spelled so, and what is spelled so is read.
use Rattle.std.proofs.Common.{◌≡◌, ℕ, zero, suc, ◌+◌, ◌-◌, ◌%◌, ◌^◌, ◌<◌, ◌≤◌, Bool, true, false, cond, eqb, ltb, eq-eqb, List, [], ◌∷◌, ◌++◌, length, take, Option, Ok, Err, refl, sym, ap, subst, ◌∙◌, append_assoc, arith}
use Rattle.std.specs.Int.{w8, w16, w32, to_be_bytes}
use Rattle.std.proofs.lemmas.{Bool.eqb-true, List.append-nil, List.length-append, List.take_at}
use Rattle.class_pool.specs.declared.{fault.Fault.TheVariants.Truncated, fault.Fault.TheVariants.BadLength, pool.Entry.Entry}
use Rattle.et_base.specs.Answers.{◌>>=◌, tested}
use Rattle.class_pool.specs.{Reading.number_at, Reading.run_at, Loops.counted}
use Rattle.class_pool.specs.Grammar.{IsBytes, Nothing, Mapped, Never, Joined}
use Rattle.class_pool.proofs.Laws.{bind_ok, ok_is, tested_ok, picked, Taken, Reads, reads_nothing, reads_then, tested_then, reads_mapped, reads_if, reads_never, reads_run, reads_8, reads_16, reads_32, reads_counted}
use Rattle.class_reader.specs.declared.parts.{MapType.MapType, MapFrame.MapFrame, MapPart.MapPart}
use Rattle.class_reader.specs.Indices.{index_at, Short, Index}
use Rattle.class_reader.specs.Maps.{type_of, frame_of, is_object, tagged_at, type_at, given_at, types_at, is_frame_tag, tells_delta, stack_given, frame_at, is_bad_length, has_bad_tag, within, kept_at, frames_at, map_at}
use Rattle.class_reader.specs.MapGrammar.{TaggedText, TypeText, GivenText, TypesText, FrameText, FramesText, MapText}
use Rattle.class_reader.proofs.IndexLaw.{reads_index}

-- ---- an entry

reads_tagged : (checked : Bool) (slots : List (Option Entry)) (left tag : ℕ) → Reads (TaggedText checked slots tag) (tagged_at checked slots left tag)
unfolding tagged_at
reads_tagged checked slots left tag = reads_if (ltb tag 7) (Nothing (type_of tag 0)) _ (λ b. Ok (type_of tag 0, b)) _ (reads_nothing (type_of tag 0))
    (reads_if (eqb tag 7) (Mapped (type_of tag) (Index (is_object checked) slots)) _ (λ b. index_at (is_object checked) slots b >>= λ index. Ok (type_of tag index.0, index.1)) _
    (reads_mapped (type_of tag) (Index (is_object checked) slots) (index_at (is_object checked) slots) (reads_index (is_object checked) slots))
    (reads_if (eqb tag 8) (Mapped (type_of tag) Short) Never (λ b. number_at w16 b >>= λ offset. Ok (type_of tag offset.0, offset.1)) (λ _. Err (BadLength left))
    (reads_mapped (type_of tag) Short (λ b. number_at w16 b) reads_16) (reads_never (BadLength left))))

reads_type : (checked : Bool) (slots : List (Option Entry)) (left : ℕ) → Reads (TypeText checked slots) (type_at checked slots left)
unfolding type_at
reads_type checked slots left = reads_then _ _ (λ b. number_at w8 b) (λ _ tag rest. tagged_at checked slots left tag rest) reads_8 (λ _ tag. reads_tagged checked slots left tag)

reads_given : (told : Bool) (given : ℕ) → Reads (GivenText told given) (given_at told given)
reads_given told given = reads_if told Short (Nothing given) (λ b. number_at w16 b) (λ b. Ok (given, b)) reads_16 (reads_nothing given)

reads_types : (checked : Bool) (slots : List (Option Entry)) (left : ℕ) (told : Bool) (given : ℕ) → Reads (TypesText checked slots told given) (types_at checked slots left told given)
unfolding types_at
reads_types checked slots left told given = reads_then _ _ (given_at told given) (λ _ n rest. counted (λ _ _ b. type_at checked slots left b) [] n rest) (reads_given told given)
    (λ _ n. reads_counted (λ _ _. TypeText checked slots) (λ _ _ b. type_at checked slots left b) (λ _ _. reads_type checked slots left) n [])

reads_frame : (checked : Bool) (slots : List (Option Entry)) (left : ℕ) → Reads (FrameText checked slots) (frame_at checked slots left)
unfolding frame_at
reads_frame checked slots left = reads_then _ _ (λ b. number_at w8 b) (λ _ tag rest. tested (is_frame_tag tag) (BadLength left) >>= λ _. given_at (tells_delta tag) (tag % 64) rest >>= λ delta. types_at checked slots left (eqb tag 255) (tag - 251) delta.1 >>= λ locals. types_at checked slots left (eqb tag 255) (stack_given tag) locals.1 >>= λ stack. Ok (frame_of tag delta.0 locals.0 stack.0, stack.1)) reads_8
    (λ _ tag. tested_then (is_frame_tag tag) (λ _. BadLength left) _ (λ rest. given_at (tells_delta tag) (tag % 64) rest >>= λ delta. types_at checked slots left (eqb tag 255) (tag - 251) delta.1 >>= λ locals. types_at checked slots left (eqb tag 255) (stack_given tag) locals.1 >>= λ stack. Ok (frame_of tag delta.0 locals.0 stack.0, stack.1))
    (reads_then _ _ (given_at (tells_delta tag) (tag % 64)) (λ _ delta rest. types_at checked slots left (eqb tag 255) (tag - 251) rest >>= λ locals. types_at checked slots left (eqb tag 255) (stack_given tag) locals.1 >>= λ stack. Ok (frame_of tag delta locals.0 stack.0, stack.1)) (reads_given (tells_delta tag) (tag % 64))
    (λ _ delta. reads_then _ _ (types_at checked slots left (eqb tag 255) (tag - 251)) (λ _ locals rest. types_at checked slots left (eqb tag 255) (stack_given tag) rest >>= λ stack. Ok (frame_of tag delta locals stack.0, stack.1)) (reads_types checked slots left (eqb tag 255) (tag - 251))
    (λ _ locals. reads_mapped (frame_of tag delta locals) (TypesText checked slots (eqb tag 255) (stack_given tag)) (types_at checked slots left (eqb tag 255) (stack_given tag)) (reads_types checked slots left (eqb tag 255) (stack_given tag))))))

-- ---- an entry whose classes are looked at has good tags

tagged_weaker : (slots : List (Option Entry)) (tag : ℕ) (text : List ℕ) (t : MapType) → TaggedText true slots tag text t → TaggedText false slots tag text t
tagged_weaker slots tag text t =
    let object : Mapped (type_of tag) (Index (is_object true) slots) text t → Mapped (type_of tag) (Index (is_object false) slots) text t = λ (i, (n, one, more, e, s, b), is). (i, (n, one, more, e, s, (refl, b.1)), is) in
    elim (ltb tag 7) as (λ a. cond a (Nothing (type_of tag 0) text t) (cond (eqb tag 7) (Mapped (type_of tag) (Index (is_object true) slots) text t) (cond (eqb tag 8) (Mapped (type_of tag) Short text t) (Never text t)))
    → cond a (Nothing (type_of tag 0) text t) (cond (eqb tag 7) (Mapped (type_of tag) (Index (is_object false) slots) text t) (cond (eqb tag 8) (Mapped (type_of tag) Short text t) (Never text t)))) [
      | true ↦ λ s. s
      | false ↦ elim (eqb tag 7) as (λ a. cond a (Mapped (type_of tag) (Index (is_object true) slots) text t) (cond (eqb tag 8) (Mapped (type_of tag) Short text t) (Never text t))
          → cond a (Mapped (type_of tag) (Index (is_object false) slots) text t) (cond (eqb tag 8) (Mapped (type_of tag) Short text t) (Never text t))) [ true ↦ object | false ↦ λ s. s ]
    ]

joined_weaker : (slots : List (Option Entry)) (before : List MapType) (text : List ℕ) (ts : List MapType) → Joined (λ _ _. TypeText true slots) before text ts → Joined (λ _ _. TypeText false slots) before text ts
joined_weaker slots before text [] s = s
joined_weaker slots before text (t ∷ ts) (one, more, e, (tag, a, b, f, n, s), others) = (one, more, e, (tag, a, b, f, n, tagged_weaker slots tag b t s), joined_weaker slots (before ++ t ∷ []) more ts others)

types_weaker : (slots : List (Option Entry)) (told : Bool) (given : ℕ) (text : List ℕ) (ts : List MapType) → TypesText true slots told given text ts → TypesText false slots told given text ts
types_weaker slots told given text ts (n, one, more, e, s, (xs, is, len, j)) = (n, one, more, e, s, (xs, is, len, joined_weaker slots [] more xs j))

frame_weaker : (slots : List (Option Entry)) (text : List ℕ) (f : MapFrame) → FrameText true slots text f → FrameText false slots text f
frame_weaker slots text f (tag, one, more, e, n, (good, (delta, a, b, e1, d, (locals, c, x, e2, l, (stack, k, is))))) =
    (tag, one, more, e, n, (good, (delta, a, b, e1, d, (locals, c, x, e2, types_weaker slots (eqb tag 255) (tag - 251) c locals l, (stack, types_weaker slots (eqb tag 255) (stack_given tag) x stack k, is)))))

frame_good : (slots : List (Option Entry)) (one more : List ℕ) (f : MapFrame) → FrameText true slots one f → has_bad_tag slots (one ++ more) ≡ false
unfolding has_bad_tag
frame_good slots one more f s = ap is_bad_length ((reads_frame false slots 0).again one more f (frame_weaker slots one f s))

-- ---- the entries

pub record FramesTaken (slots : List (Option Entry)) (n : ℕ) (front : List MapFrame) (bytes : List ℕ) (y : (List MapFrame × List ℕ) × List ℕ) : Type 0 where
  pub text : List ℕ
  pub frames : List MapFrame
  pub parts : bytes ≡ text ++ y.1
  pub joined : y.0.0 ≡ front ++ frames
  pub spelled : FramesText slots n text frames y.0.1
  pub rest_fits : IsBytes y.1

kept_takes : (slots : List (Option Entry)) (n k : ℕ) (front : List MapFrame) (bytes : List ℕ) (y : (List MapFrame × List ℕ) × List ℕ) → IsBytes bytes → has_bad_tag slots (take k bytes) ≡ true → kept_at front k bytes ≡ Ok y → FramesTaken slots (suc n) front bytes y
unfolding kept_at
kept_takes slots n k front bytes y fits bad e =
    let a = bind_ok (run_at k bytes) (λ kept. Ok ((front, kept.0), kept.1)) y e in
    let t = (reads_run k (λ b. Truncated (length b))).takes bytes a.0 fits a.1 in
    let kept : take k bytes ≡ a.0.0 = ap (take k) t.parts ∙ take_at t.text a.0.1 k (ap length t.spelled.0 ∙ t.spelled.1) ∙ t.spelled.0 in
    let made : FramesTaken slots (suc n) front bytes ((front, a.0.0), a.0.1) = record {
      text = t.text;
      frames = [];
      parts = t.parts;
      joined = sym (append-nil front);
      spelled = (t.spelled.0, sym (ap (has_bad_tag slots) kept) ∙ bad, t.spelled.2);
      rest_fits = t.rest_fits;
    } in
    subst (λ z. FramesTaken slots (suc n) front bytes z) (ok_is ((front, a.0.0), a.0.1) y a.2) made

frames_takes : (slots : List (Option Entry)) (left len total n : ℕ) (front : List MapFrame) (bytes : List ℕ) (y : (List MapFrame × List ℕ) × List ℕ) → IsBytes bytes → frames_at slots left len total n front bytes ≡ Ok y → FramesTaken slots n front bytes y
unfolding frames_at
frames_takes slots left len total zero front bytes y fits e = subst (λ z. FramesTaken slots 0 front bytes z) (ok_is ((front, []), bytes) y e) (record { text = []; frames = []; parts = refl; joined = sym (append-nil front); spelled = (refl, refl); rest_fits = fits })
frames_takes slots left len total (suc n) front bytes y fits e =
    picked (has_bad_tag slots (take (within len total bytes) bytes)) (kept_at front (within len total bytes) bytes) (frame_at true slots left bytes >>= λ f. frames_at slots left len total n (front ++ f.0 ∷ []) f.1) (Ok y) e
    (λ bad h. kept_takes slots n (within len total bytes) front bytes y fits bad h)
    (λ good h.
    let a = bind_ok (frame_at true slots left bytes) (λ f. frames_at slots left len total n (front ++ f.0 ∷ []) f.1) y h in
    let t = (reads_frame true slots left).takes bytes a.0 fits a.1 in
    let u = frames_takes slots left len total n (front ++ a.0.0 ∷ []) a.0.1 y t.rest_fits a.2 in
    record {
      text = t.text ++ u.text;
      frames = a.0.0 ∷ u.frames;
      parts = t.parts ∙ ap (λ (r : List ℕ). t.text ++ r) u.parts ∙ sym (append_assoc t.text u.text y.1);
      joined = u.joined ∙ append_assoc front (a.0.0 ∷ []) u.frames;
      spelled = (t.text, u.text, refl, t.spelled, u.spelled);
      rest_fits = u.rest_fits;
    })

-- Behind the entries the attribute ends.
within_is : (len : ℕ) (text after : List ℕ) → length text ≤ len → within len (len + length after) (text ++ after) ≡ length text
within_is len text after le = omega (arith, length-append text after)

front_is : (len : ℕ) (text after : List ℕ) → length text ≤ len → take (within len (len + length after) (text ++ after)) (text ++ after) ≡ text
front_is len text after le = take_at text after _ (sym (within_is len text after le))

kept_again : (slots : List (Option Entry)) (left len n : ℕ) (front : List MapFrame) (text after : List ℕ) → length text ≤ len → has_bad_tag slots text ≡ true → IsBytes text
    → frames_at slots left len (len + length after) (suc n) front (text ++ after) ≡ Ok ((front, text), after)
unfolding frames_at kept_at
kept_again slots left len n front text after le bad fits =
    let there : has_bad_tag slots (take (within len (len + length after) (text ++ after)) (text ++ after)) ≡ true = ap (has_bad_tag slots) (front_is len text after le) ∙ bad in
    let run : run_at (within len (len + length after) (text ++ after)) (text ++ after) ≡ Ok (text, after) =
    ap (λ k. run_at k (text ++ after)) (within_is len text after le) ∙ (reads_run (length text) (λ b. Truncated (length b))).again text after text (refl, refl, fits) in
    rw there (ap (λ r. r >>= λ kept. Ok ((front, kept.0), kept.1)) run)

frames_again : (slots : List (Option Entry)) (left len n : ℕ) (frames front : List MapFrame) (text rest after : List ℕ) → FramesText slots n text frames rest → length text ≤ len
    → frames_at slots left len (len + length after) n front (text ++ after) ≡ Ok ((front ++ frames, rest), after)
unfolding frames_at
frames_again slots left len zero [] front text rest after s le = rw (s.0, s.1, append-nil) refl
frames_again slots left len zero (f ∷ frames) front text rest after s le = absurd s
frames_again slots left len (suc n) [] front text rest after s le =
    kept_again slots left len n front text after le (ap (has_bad_tag slots) s.0 ∙ s.1) (subst IsBytes (sym s.0) s.2) ∙ ap (λ x. Ok (x, after)) (ap (λ fs. (fs, text)) (sym (append-nil front)) ∙ ap (λ r. (front ++ [], r)) s.0)
frames_again slots left len (suc n) (f ∷ frames) front text rest after (one, more, e, s, others) le =
    let good : has_bad_tag slots (take (within len (len + length after) (text ++ after)) (text ++ after)) ≡ false = ap (has_bad_tag slots) (front_is len text after le ∙ e) ∙ frame_good slots one more f s in
    let whole : text ++ after ≡ one ++ (more ++ after) = ap (λ b. b ++ after) e ∙ append_assoc one more after in
    let shorter : length more ≤ len = omega (arith, ap length e, length-append one more) in
    rw good (ap (λ r. r >>= λ f. frames_at slots left len (len + length after) n (front ++ f.0 ∷ []) f.1) (ap (frame_at true slots left) whole ∙ (reads_frame true slots left).again one (more ++ after) f s)
    ∙ frames_again slots left len n frames (front ++ f ∷ []) more rest after others shorter ∙ ap (λ fs. Ok ((fs, rest), after)) (append_assoc front (f ∷ []) frames))

-- ---- the attribute

part_of : ℕ → List MapFrame → List ℕ → MapPart
part_of count frames rest = record { count = count; frames = frames; rest = rest }

map_takes : (slots : List (Option Entry)) (bytes : List ℕ) (y : MapPart × List ℕ) → IsBytes bytes → map_at slots bytes ≡ Ok y → Taken (MapText slots) bytes y
unfolding map_at part_of
map_takes slots bytes y fits e =
    let a = bind_ok (number_at w32 bytes) (λ len. number_at w16 len.1 >>= λ count. frames_at slots (length bytes) len.0 (length len.1) count.0 [] count.1 >>= λ frames. tested (eqb (length len.1 - length frames.1) len.0) (BadLength (length bytes)) >>= λ _. Ok (part_of count.0 frames.0.0 frames.0.1, frames.1)) y e in
    let b = bind_ok (number_at w16 a.0.1) (λ count. frames_at slots (length bytes) a.0.0 (length a.0.1) count.0 [] count.1 >>= λ frames. tested (eqb (length a.0.1 - length frames.1) a.0.0) (BadLength (length bytes)) >>= λ _. Ok (part_of count.0 frames.0.0 frames.0.1, frames.1)) y a.2 in
    let c = bind_ok (frames_at slots (length bytes) a.0.0 (length a.0.1) b.0.0 [] b.0.1) (λ frames. tested (eqb (length a.0.1 - length frames.1) a.0.0) (BadLength (length bytes)) >>= λ _. Ok (part_of b.0.0 frames.0.0 frames.0.1, frames.1)) y b.2 in
    let d = tested_ok (eqb (length a.0.1 - length c.0.1) a.0.0) (BadLength (length bytes)) (Ok (part_of b.0.0 c.0.0.0 c.0.0.1, c.0.1)) y c.2 in
    let t = reads_32.takes bytes a.0 fits a.1 in
    let u = reads_16.takes a.0.1 b.0 t.rest_fits b.1 in
    let v = frames_takes slots (length bytes) a.0.0 (length a.0.1) b.0.0 [] b.0.1 c.0 u.rest_fits c.1 in
    let content : List ℕ = u.text ++ v.text in
    let inner : a.0.1 ≡ content ++ c.0.1 = u.parts ∙ ap (λ (r : List ℕ). u.text ++ r) v.parts ∙ sym (append_assoc u.text v.text c.0.1) in
    let len : length content ≡ a.0.0 = omega (arith, ap length inner, length-append content c.0.1, eqb-true _ _ d.0) in
    let frames : FramesText slots b.0.0 v.text c.0.0.0 c.0.0.1 = subst (λ fs. FramesText slots b.0.0 v.text fs c.0.0.1) (sym v.joined) v.spelled in
    let made : Taken (MapText slots) bytes (part_of b.0.0 c.0.0.0 c.0.0.1, c.0.1) = record {
      text = t.text ++ content;
      parts = t.parts ∙ ap (λ (r : List ℕ). t.text ++ r) inner ∙ sym (append_assoc t.text content c.0.1);
      spelled = (content, ap (λ o. o ++ content) (t.spelled.0 ∙ ap (to_be_bytes w32) (sym len)), subst (λ k. k < 2 ^ 32) (sym len) t.spelled.1, (b.0.0, u.text, v.text, refl, u.spelled, (refl, frames)));
      rest_fits = v.rest_fits;
    } in
    subst (λ z. Taken (MapText slots) bytes z) (ok_is (part_of b.0.0 c.0.0.0 c.0.0.1, c.0.1) y d.1) made

map_again : (slots : List (Option Entry)) (text after : List ℕ) (x : MapPart) → MapText slots text x → map_at slots (text ++ after) ≡ Ok (x, after)
unfolding map_at part_of
map_again slots text after x (content, e, lt, (n, one, more, f, s, (is, frames))) =
    let all : List ℕ = text ++ after in
    let whole : text ++ after ≡ to_be_bytes w32 (length content) ++ (content ++ after) = ap (λ b. b ++ after) e ∙ append_assoc (to_be_bytes w32 (length content)) content after in
    let inner : content ++ after ≡ one ++ (more ++ after) = ap (λ b. b ++ after) f ∙ append_assoc one more after in
    let first : number_at w32 all ≡ Ok (length content, content ++ after) = ap (λ b. number_at w32 b) whole ∙ reads_32.again (to_be_bytes w32 (length content)) (content ++ after) (length content) (refl, lt) in
    let second : number_at w16 (content ++ after) ≡ Ok (n, more ++ after) = ap (λ b. number_at w16 b) inner ∙ reads_16.again one (more ++ after) n s in
    let shorter : length more ≤ length content = omega (arith, ap length f, length-append one more) in
    let third : frames_at slots (length all) (length content) (length (content ++ after)) n [] (more ++ after) ≡ Ok ((x.frames, x.rest), after) =
    ap (λ t. frames_at slots (length all) (length content) t n [] (more ++ after)) (length-append content after) ∙ frames_again slots (length all) (length content) n x.frames [] more x.rest after frames shorter in
    let test : eqb (length (content ++ after) - length after) (length content) ≡ true = eq-eqb _ _ (omega (arith, length-append content after)) in
    ap (λ r. r >>= λ len. number_at w16 len.1 >>= λ count. frames_at slots (length all) len.0 (length len.1) count.0 [] count.1 >>= λ frames. tested (eqb (length len.1 - length frames.1) len.0) (BadLength (length all)) >>= λ _. Ok (part_of count.0 frames.0.0 frames.0.1, frames.1)) first
    ∙ ap (λ r. r >>= λ count. frames_at slots (length all) (length content) (length (content ++ after)) count.0 [] count.1 >>= λ frames. tested (eqb (length (content ++ after) - length frames.1) (length content)) (BadLength (length all)) >>= λ _. Ok (part_of count.0 frames.0.0 frames.0.1, frames.1)) second
    ∙ ap (λ r. r >>= λ frames. tested (eqb (length (content ++ after) - length frames.1) (length content)) (BadLength (length all)) >>= λ _. Ok (part_of n frames.0.0 frames.0.1, frames.1)) third
    ∙ ap (λ b. tested b (BadLength (length all)) >>= λ _. Ok (part_of n x.frames x.rest, after)) test
    ∙ ap (λ k. Ok (part_of k x.frames x.rest, after)) (sym is)

pub reads_map : (slots : List (Option Entry)) → Reads (MapText slots) (map_at slots)
reads_map slots = record { takes = map_takes slots; again = map_again slots }
