-- Handler tables: what is read is spelled so, and what is spelled so is read.
use Rattle.std.proofs.Common.{ℕ, ltb, List, [], length, Option, Ok}
use Rattle.std.specs.Int.{w16}
use Rattle.class_pool.specs.declared.{fault.Fault.TheVariants.BadIndex, fault.Fault.TheVariants.BadTarget, pool.Entry.Entry}
use Rattle.et_base.specs.Answers.{◌>>=◌, tested}
use Rattle.class_pool.specs.{Reading.number_at, Loops.counted, Grammar.Nothing, Grammar.Mapped}
use Rattle.class_pool.proofs.Laws.{Reads, reads_nothing, reads_then, tested_then, reads_mapped, reads_16, reads_counted}
use Rattle.code_decode.specs.declared.decoding.Code.{Code}
use Rattle.class_reader.specs.Handlers.{begins_at, ends_at, is_caught, range_at, catch_at, handler_of, handler_at, handlers_at, RangeText, CatchText, HandlerText, HandlersText}

reads_range : (method : ℕ) (code : Code) → Reads (RangeText code) (range_at method code)
unfolding range_at
reads_range method code = reads_then _ _ (λ b. number_at w16 b) (λ _ from rest. tested (begins_at code from) (BadTarget method from) >>= λ _. number_at w16 rest >>= λ to. tested (ends_at code to.0) (BadTarget method to.0) >>= λ _. tested (ltb from to.0) (BadTarget method from) >>= λ _. Ok ((from, to.0), to.1)) reads_16
    (λ _ from. tested_then (begins_at code from) (λ _. BadTarget method from) _ (λ rest. number_at w16 rest >>= λ to. tested (ends_at code to.0) (BadTarget method to.0) >>= λ _. tested (ltb from to.0) (BadTarget method from) >>= λ _. Ok ((from, to.0), to.1))
    (reads_then _ _ (λ b. number_at w16 b) (λ _ to rest. tested (ends_at code to) (BadTarget method to) >>= λ _. tested (ltb from to) (BadTarget method from) >>= λ _. Ok ((from, to), rest)) reads_16
    (λ _ to. tested_then (ends_at code to) (λ _. BadTarget method to) _ (λ rest. tested (ltb from to) (BadTarget method from) >>= λ _. Ok ((from, to), rest))
    (tested_then (ltb from to) (λ _. BadTarget method from) (Nothing (from, to)) (λ rest. Ok ((from, to), rest)) (reads_nothing (from, to))))))

reads_catch : (slots : List (Option Entry)) → Reads (CatchText slots) (catch_at slots)
unfolding catch_at
reads_catch slots = reads_then _ _ (λ b. number_at w16 b) (λ all i rest. tested (is_caught slots i) (BadIndex (length all)) >>= λ _. Ok (i, rest)) reads_16
    (λ all i. tested_then (is_caught slots i) (λ _. BadIndex (length all)) (Nothing i) (λ rest. Ok (i, rest)) (reads_nothing i))

reads_handler : (method : ℕ) (slots : List (Option Entry)) (code : Code) → Reads (HandlerText slots code) (handler_at method slots code)
unfolding handler_at
reads_handler method slots code = reads_then _ _ (range_at method code) (λ _ range rest. number_at w16 rest >>= λ at. tested (begins_at code at.0) (BadTarget method at.0) >>= λ _. catch_at slots at.1 >>= λ class. Ok (handler_of range at.0 class.0, class.1)) (reads_range method code)
    (λ _ range. reads_then _ _ (λ b. number_at w16 b) (λ _ at rest. tested (begins_at code at) (BadTarget method at) >>= λ _. catch_at slots rest >>= λ class. Ok (handler_of range at class.0, class.1)) reads_16
    (λ _ at. tested_then (begins_at code at) (λ _. BadTarget method at) (Mapped (handler_of range at) (CatchText slots)) _ (reads_mapped (handler_of range at) (CatchText slots) (catch_at slots) (reads_catch slots))))

pub reads_handlers : (method : ℕ) (slots : List (Option Entry)) (code : Code) → Reads (HandlersText slots code) (handlers_at method slots code)
unfolding handlers_at
reads_handlers method slots code = reads_then _ _ (λ b. number_at w16 b) (λ _ n rest. counted (λ _ _ b. handler_at method slots code b) [] n rest) reads_16
    (λ _ n. reads_counted (λ _ _. HandlerText slots code) (λ _ _ b. handler_at method slots code b) (λ _ _. reads_handler method slots code) n [])
