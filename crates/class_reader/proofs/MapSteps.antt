-- The entries of a stack map, one after the other, as a loop reads them.
use Rattle.std.proofs.Common.{◌≡◌, ℕ, suc, ◌-◌, ◌+◌, ◌≤◌, ◌<◌, true, false, cond, List, [], ◌∷◌, ◌++◌, take, Option, Result, Ok, sym, ap, ◌∙◌, arith}
use Rattle.class_pool.specs.{declared.fault.Fault.Fault, declared.fault.ReadError.ReadError, declared.pool.Entry.Entry, Reading.named}
use Rattle.class_pool.specs.declared.fault.ReadError.TheVariants as errors
use Rattle.et_base.specs.Answers.{◌>>=◌, Fails}
use Rattle.class_reader.specs.declared.parts.MapFrame.{MapFrame}
use Rattle.class_reader.specs.Maps.{frame_at, has_bad_tag, within, kept_at, frames_at}

abbrev Frames : Type 0
Frames = Result ((List MapFrame × List ℕ) × List ℕ) Fault

-- one entry more where its tags are good
frames_next : (slots : List (Option Entry)) (left len total n i : ℕ) (front : List MapFrame) (bytes : List ℕ) (all : Frames)
    → i < n → has_bad_tag slots (take (within len total bytes) bytes) ≡ false → frames_at slots left len total (n - i) front bytes ≡ all
    → (frame_at true slots left bytes >>= λ f. frames_at slots left len total (n - (i + 1)) (front ++ f.0 ∷ []) f.1) ≡ all
unfolding frames_at
frames_next slots left len total n i front bytes all lt good so_far =
    let k : n - i ≡ suc (n - (i + 1)) = omega arith in
    let next = frame_at true slots left bytes >>= λ f. frames_at slots left len total (n - (i + 1)) (front ++ f.0 ∷ []) f.1 in
    sym (ap (λ b. cond b (kept_at front (within len total bytes) bytes) next) good) ∙ sym (ap (λ m. frames_at slots left len total m front bytes) k) ∙ so_far

pub frames_on : (slots : List (Option Entry)) (left len total n i : ℕ) (front : List MapFrame) (bytes : List ℕ) (x : MapFrame × List ℕ) (all : Frames)
    → i < n → has_bad_tag slots (take (within len total bytes) bytes) ≡ false → frame_at true slots left bytes ≡ Ok x → frames_at slots left len total (n - i) front bytes ≡ all
    → frames_at slots left len total (n - (i + 1)) (front ++ x.0 ∷ []) x.1 ≡ all
frames_on slots left len total n i front bytes x all lt good h so_far =
    sym (ap (λ r. r >>= λ f. frames_at slots left len total (n - (i + 1)) (front ++ f.0 ∷ []) f.1) h) ∙ frames_next slots left len total n i front bytes all lt good so_far

pub frames_fail : (e : ReadError) (slots : List (Option Entry)) (left len total n i : ℕ) (front : List MapFrame) (bytes : List ℕ) (all : Frames)
    → i < n → has_bad_tag slots (take (within len total bytes) bytes) ≡ false → Fails (named e) (frame_at true slots left bytes) → frames_at slots left len total (n - i) front bytes ≡ all → Fails (named e) all
frames_fail errors.Memory slots left len total n i front bytes all lt good h so_far = tt
frames_fail (errors.Fault f) slots left len total n i front bytes all lt good h so_far =
    sym (frames_next slots left len total n i front bytes all lt good so_far) ∙ ap (λ r. r >>= λ f. frames_at slots left len total (n - (i + 1)) (front ++ f.0 ∷ []) f.1) h

pub frames_stop : (slots : List (Option Entry)) (left len total n i : ℕ) (front : List MapFrame) (bytes : List ℕ) (all : Frames)
    → i < n → has_bad_tag slots (take (within len total bytes) bytes) ≡ true → frames_at slots left len total (n - i) front bytes ≡ all → kept_at front (within len total bytes) bytes ≡ all
unfolding frames_at
frames_stop slots left len total n i front bytes all lt bad so_far =
    let k : n - i ≡ suc (n - (i + 1)) = omega arith in
    let next = frame_at true slots left bytes >>= λ f. frames_at slots left len total (n - (i + 1)) (front ++ f.0 ∷ []) f.1 in
    sym (ap (λ b. cond b (kept_at front (within len total bytes) bytes) next) bad) ∙ sym (ap (λ m. frames_at slots left len total m front bytes) k) ∙ so_far

pub frames_done : (slots : List (Option Entry)) (left len total n i : ℕ) (front : List MapFrame) (bytes : List ℕ) (all : Frames)
    → n ≤ i → frames_at slots left len total (n - i) front bytes ≡ all → all ≡ Ok ((front, []), bytes)
unfolding frames_at
frames_done slots left len total n i front bytes all le so_far =
    let k : n - i ≡ 0 = omega arith in
    sym so_far ∙ ap (λ m. frames_at slots left len total m front bytes) k
