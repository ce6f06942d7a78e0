-- Bytes on their way through a sink that gathers them.
use Rattle.std.proofs.Common.{◌≡◌, ◌≤◌, ◌<◌, ◌+◌, ◌++◌, ℕ, List, [], length, Option, Some, None, Result, Ok, Err, IfOk, IsErrAnd, refl, ap, sym, subst, ◌∙◌, arith, take, drop, take_all, length-append, length-drop, take-append-drop}
use Rattle.std.proofs.lemmas.List.{drop-drop}
use Rattle.std.specs.Result.{result_unwrap_or}
use Rattle.outside.specs.Sink.{SinkView, appended, lowered, HasRoom}
use Rattle.outside.proofs.SinkLemmas.{appended-nil, appended-appended, lowered-zero, lowered-lowered, HasRoom-lowered}
use Rattle.electric.specs.Gathered.{Gathering, seen, HandedOn, TookFront}

pub handed_none : (s : SinkView) (bytes : List ℕ) → HandedOn s s bytes bytes
handed_none s bytes = record { told = refl; room = refl; later = omega arith; fits = λ h. h; quiet = λ _. refl }

pub handed_more : (old mid new : SinkView) (bytes more left : List ℕ) → HandedOn old mid bytes more → HandedOn mid new more left → HandedOn old new bytes left
handed_more old mid new bytes more left first then = record {
  told = then.told ∙ first.told;
  room = then.room ∙ first.room;
  later = omega (arith, first.later, then.later);
  fits = λ h. then.fits (first.fits h);
  quiet = λ h. then.quiet (first.fits h) ∙ first.quiet h;
}

pub taken_within : {E : Type 0} (r : Result ℕ E) (n : ℕ) → IfOk r (λ taken. taken ≤ n) → result_unwrap_or r 0 ≤ n
taken_within (Ok taken) n h = h
taken_within (Err e) n h = omega arith

-- the sink took a front
pub handed_front : (old new : SinkView) (bytes : List ℕ) (n : ℕ)
    → n ≤ length bytes → TookFront old new bytes n → HandedOn old new bytes (drop n bytes)
handed_front old new bytes n within took =
    let left = drop n bytes in
    let parts : n + length left ≡ length bytes = omega (arith, within, length-drop n bytes) in
    record {
      told = ap (λ t. appended t left) took.told ∙ appended-appended old.told (take n bytes) left ∙ ap (λ all. appended old.told all) (take-append-drop n bytes);
      room = ap (λ r. lowered r (length left)) took.room ∙ lowered-lowered old.room n (length left) ∙ ap (λ k. lowered old.room k) parts;
      later = took.later;
      fits = λ h. subst (λ r. HasRoom r (length left)) (sym took.room) (HasRoom-lowered old.room n (length left) (subst (λ k. HasRoom old.room k) (sym parts) h));
      quiet = took.quiet;
    }

abbrev gathering : {S : Type 0} → S → List ℕ → Gathering S
gathering sink bytes = record { sink = sink; bytes = bytes }

-- a front was taken of what is gathered behind the bytes that were sent
pub handed_step : {S : Type 0} (shown : S → SinkView) (sink : S) (sent : ℕ) (items : List ℕ) (old : Gathering S) (new : SinkView) (piece : List ℕ) (n k : ℕ)
    → gathering sink (drop sent items) ≡ old → piece ≡ drop sent items → k ≡ n → n ≤ length piece → TookFront (shown sink) new piece n
    → HandedOn (shown old.sink) new old.bytes (drop (sent + k) items)
handed_step {S} shown sink sent items old new piece n k viewed cut same within took =
    let step : HandedOn (shown sink) new (drop sent items) (drop n (drop sent items)) =
    subst (λ (p : List ℕ). HandedOn (shown sink) new p (drop n p)) cut (handed_front (shown sink) new piece n within took) in
    let left : drop n (drop sent items) ≡ drop (sent + k) items = drop-drop n sent items ∙ ap (λ (m : ℕ). drop (sent + m) items) (sym same) in
    subst (λ (s : Gathering S). HandedOn (shown s.sink) new s.bytes (drop (sent + k) items)) viewed
    (subst (λ (l : List ℕ). HandedOn (shown sink) new (drop sent items) l) left step)

-- it was handed on from where it stood
pub handed_from : {S : Type 0} (shown : S → SinkView) (old at : Gathering S) (new : SinkView) (left : List ℕ)
    → at ≡ old → HandedOn (shown at.sink) new at.bytes left → HandedOn (shown old.sink) new old.bytes left
handed_from {S} shown old at new left same handed = subst (λ (s : Gathering S). HandedOn (shown s.sink) new s.bytes left) same handed

pub unwrap_err : {E : Type 0} (Q : E → Type 0) (r : Result ℕ E) → IsErrAnd r Q → result_unwrap_or r 0 ≡ 0
unwrap_err Q (Ok x) h = absurd h
unwrap_err Q (Err e) h = refl

-- room behind bytes is room for them
pub HasRoom-behind : (room : Option ℕ) (m n : ℕ) → 0 < n → HasRoom (lowered room m) n → HasRoom room m
unfolding lowered HasRoom
HasRoom-behind None m n some h = h
HasRoom-behind (Some left) m n some h = omega arith

-- a piece was gathered
pub took_gathered : {S : Type 0} (shown : S → SinkView) (old new : Gathering S) (piece : List ℕ) (n : ℕ)
    → new ≡ record old { bytes = old.bytes ++ piece } → n ≡ length piece → TookFront (seen shown old) (seen shown new) piece n
took_gathered {S} shown old new piece n same size =
    let s = shown old.sink in
    let P : Gathering S → Type 0 = λ g. TookFront (seen shown old) (seen shown g) piece n in
    let whole : TookFront (seen shown old) (seen shown (record old { bytes = old.bytes ++ piece })) piece n = record {
      told = sym (appended-appended s.told old.bytes piece) ∙ ap (λ p. appended (appended s.told old.bytes) p) (sym (take_all n piece (omega (arith, size))));
      room = ap (λ k. lowered s.room k) (length-append old.bytes piece) ∙ sym (lowered-lowered s.room (length old.bytes) (length piece)) ∙ ap (λ k. lowered (lowered s.room (length old.bytes)) k) (sym size);
      later = omega arith;
      quiet = λ _. refl;
    } in
    subst P (sym same) whole

-- nothing of it was taken
pub took_none : {S : Type 0} (shown : S → SinkView) (old new : Gathering S) (piece : List ℕ) (n : ℕ)
    → n ≡ 0 → 0 < length piece → HandedOn (shown old.sink) (shown new.sink) old.bytes new.bytes → TookFront (seen shown old) (seen shown new) piece n
took_none {S} shown old new piece n none some handed =
    let whole : TookFront (seen shown old) (seen shown new) piece 0 = record {
      told = handed.told ∙ sym (appended-nil _);
      room = handed.room ∙ sym (lowered-zero _);
      later = handed.later;
      quiet = λ h. handed.quiet (HasRoom-behind (shown old.sink).room (length old.bytes) (length piece) some h);
    } in
    subst (λ k. TookFront (seen shown old) (seen shown new) piece k) (sym none) whole

-- it was taken after what is gathered was handed on
pub took_after : {S : Type 0} (shown : S → SinkView) (old mid new : Gathering S) (piece : List ℕ) (n : ℕ)
    → 0 < length piece → HandedOn (shown old.sink) (shown mid.sink) old.bytes mid.bytes
    → TookFront (seen shown mid) (seen shown new) piece n → TookFront (seen shown old) (seen shown new) piece n
took_after shown old mid new piece n some handed took = record {
  told = took.told ∙ ap (λ t. appended t (take n piece)) handed.told;
  room = took.room ∙ ap (λ r. lowered r n) handed.room;
  later = omega (arith, handed.later, took.later);
  quiet = λ h. took.quiet (subst (λ r. HasRoom r (length piece)) (sym handed.room) h) ∙ handed.quiet (HasRoom-behind (shown old.sink).room (length old.bytes) (length piece) some h);
}

abbrev SinkViewOf : Option (List ℕ) → Option ℕ → ℕ → SinkView
SinkViewOf told room faults = record { told = told; room = room; faults = faults }

-- nothing is gathered, so it shows the sink
pub seen_nil : (s : SinkView) (bytes : List ℕ) → bytes ≡ []
    → SinkViewOf (appended s.told bytes) (lowered s.room (length bytes)) s.faults ≡ s
seen_nil s bytes none =
    ap (λ (b : List ℕ). SinkViewOf (appended s.told b) (lowered s.room (length b)) s.faults) none
    ∙ ap (λ (t : Option (List ℕ)). SinkViewOf t (lowered s.room 0) s.faults) (appended-nil s.told)
    ∙ ap (λ (r : Option ℕ). SinkViewOf s.told r s.faults) (lowered-zero s.room)

-- the sink took it itself
pub took_itself : {S : Type 0} (shown : S → SinkView) (old at new : Gathering S) (piece : List ℕ) (n : ℕ)
    → at ≡ old → old.bytes ≡ [] → new.bytes ≡ at.bytes → TookFront (shown at.sink) (shown new.sink) piece n → TookFront (seen shown old) (seen shown new) piece n
took_itself {S} shown old at new piece n same none kept took =
    let none_at : at.bytes ≡ [] = ap (λ (s : Gathering S). s.bytes) same ∙ none in
    subst (λ (s : Gathering S). TookFront (seen shown s) (seen shown new) piece n) same
    (subst (λ (s : SinkView). TookFront s (seen shown new) piece n) (sym (seen_nil (shown at.sink) at.bytes none_at))
    (subst (λ (s : SinkView). TookFront (shown at.sink) s piece n) (sym (seen_nil (shown new.sink) new.bytes (kept ∙ none_at))) took))
