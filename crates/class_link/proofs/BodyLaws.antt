-- The table of targets serves for looking up each entry.
use Rattle.std.proofs.Common.{◌≡◌, ℕ, zero, suc, List, [], ◌∷◌, Option, None, Bool, map, refl, sym, ap, ◌∙◌, slice_index_or}
use Rattle.std.proofs.Math.ListN.{get_or-map}
use Rattle.class_pool.specs.{declared.pool.Entry.Entry, Pool.entry_of}
use Rattle.code_decode.specs.declared.instructions.RawOp.{RawOp}
use Rattle.class_reader.specs.declared.parts.{CodePart.CodePart, RawHandler.RawHandler}
use Rattle.jvm_model.specs.declared.program.{Placed.Placed, Handler.Handler, FrameRec.FrameRec}
use Rattle.code_forms.specs.{declared.references.Target.Target, Operands.index_in}
use Rattle.class_link.specs.References.{LinkEnvironment, target_of}
use Rattle.class_link.specs.Bodies.{targets, target_in, placed, placed_by, handler_rec, frame_recs, is_cut, linked_body}

nothing_for : (s : LinkEnvironment) (slots : List (Option Entry)) → target_of s slots None ≡ None
unfolding target_of
nothing_for s slots = refl

pub target_in-targets : (s : LinkEnvironment) (slots : List (Option Entry)) (i : ℕ) → target_in (targets s slots) i ≡ target_of s slots (entry_of slots i)
target_in-targets s slots zero = sym (nothing_for s slots)
target_in-targets s slots (suc i) = ap (slice_index_or (map (target_of s slots) slots) i) (sym (nothing_for s slots)) ∙ get_or-map (target_of s slots) slots i None

pub same_code : (s : LinkEnvironment) (slots : List (Option Entry)) (ops : List RawOp) → map (λ o. placed_by (target_in (targets s slots) (index_in o)) o) ops ≡ map (placed s slots) ops
same_code s slots [] = refl
same_code s slots (o ∷ os) = (λ i. placed_by (target_in-targets s slots (index_in o) i) o ∷ same_code s slots os i)

-- a body of these parts is the linked one
pub made_of : (s : LinkEnvironment) (slots : List (Option Entry)) (ts : List (Option Target)) (code : CodePart) (ops : List RawOp) (rows : List RawHandler) → ts ≡ targets s slots → ops ≡ code.code.ops → rows ≡ code.handlers
    → (places : List Placed) (handlers : List Handler) (frames : List FrameRec) (cut : Bool)
    → places ≡ map (λ o. placed_by (target_in ts (index_in o)) o) ops → handlers ≡ map (handler_rec s.names slots) rows → frames ≡ frame_recs slots code.map → cut ≡ is_cut code.map
    → record { max_stack = code.max_stack; max_locals = code.max_locals; length = code.code.length; code = places; handlers = handlers; frames = frames; malformed = cut } ≡ linked_body s slots code
unfolding linked_body
made_of s slots ts code ops rows h o r places handlers frames cut p q f t =
    let all : places ≡ map (placed s slots) code.code.ops = p ∙ ap (λ us. map (λ o. placed_by (target_in us (index_in o)) o) ops) h ∙ ap (map (λ o. placed_by (target_in (targets s slots) (index_in o)) o)) o ∙ same_code s slots code.code.ops in
    let each : handlers ≡ map (handler_rec s.names slots) code.handlers = q ∙ ap (map (handler_rec s.names slots)) r in
    (λ i. record { max_stack = code.max_stack; max_locals = code.max_locals; length = code.code.length; code = all i; handlers = each i; frames = f i; malformed = t i })
