-- What a sink took of a text so far.
use Rattle.std.proofs.Common.{◌≡◌, ◌≤◌, ◌<◌, ◌+◌, ◌-◌, ◌++◌, ℕ, List, [], length, Option, Some, None, refl, ap, sym, subst, ◌∙◌, arith, append_assoc, append-nil, length-append, take, Result, Ok, Err, IfOk, OnOk, OnErr, IsErr, min}
use Rattle.std.specs.Result.{result_unwrap_or}
use Rattle.outside.specs.Sink.{SinkView, TookPrefix, appended, lowered, HasRoom}

-- From old to new the sink took a front of the text, and the rest is left.
pub record Took (old new : SinkView) (text rest : List ℕ) : Type 0 where
  pub front : List ℕ
  pub whole : text ≡ front ++ rest
  pub bytes : new.told ≡ appended old.told front
  pub left : new.room ≡ lowered old.room (length front)
  pub later : old.faults ≤ new.faults
  pub quiet : HasRoom old.room (length text) → new.faults ≡ old.faults

pub appended-nil : (told : Option (List ℕ)) → appended told [] ≡ told
unfolding appended
appended-nil None = refl
appended-nil (Some bytes) = ap (λ all. Some all) (append-nil bytes)

pub appended-appended : (told : Option (List ℕ)) (xs ys : List ℕ) → appended (appended told xs) ys ≡ appended told (xs ++ ys)
unfolding appended
appended-appended None xs ys = refl
appended-appended (Some bytes) xs ys = ap (λ all. Some all) (append_assoc bytes xs ys)

pub lowered-zero : (room : Option ℕ) → lowered room 0 ≡ room
unfolding lowered
lowered-zero None = refl
lowered-zero (Some left) = let e : left - 0 ≡ left = omega arith in ap (λ n. Some n) e

pub lowered-lowered : (room : Option ℕ) (m n : ℕ) → lowered (lowered room m) n ≡ lowered room (m + n)
unfolding lowered
lowered-lowered None m n = refl
lowered-lowered (Some left) m n = let e : (left - m) - n ≡ left - (m + n) = omega arith in ap (λ n. Some n) e

-- room for all of it is room for the rest
pub HasRoom-lowered : (room : Option ℕ) (m n : ℕ) → HasRoom room (m + n) → HasRoom (lowered room m) n
unfolding lowered HasRoom
HasRoom-lowered None m n h = h
HasRoom-lowered (Some left) m n h = omega arith

pub HasRoom-less : (room : Option ℕ) (m n : ℕ) → m ≤ n → HasRoom room n → HasRoom room m
unfolding HasRoom
HasRoom-less None m n le h = h
HasRoom-less (Some left) m n le h = omega arith

-- nothing taken so far
pub took_none : (s : SinkView) (text : List ℕ) → Took s s text text
took_none s text = record {
  front = [];
  whole = refl;
  bytes = sym (appended-nil s.told);
  left = sym (lowered-zero s.room);
  later = omega arith;
  quiet = λ _. refl;
}

-- room for the whole text was room for the rest
pub room_for_rest : (old mid : SinkView) (text rest : List ℕ) → Took old mid text rest → HasRoom old.room (length text) → HasRoom mid.room (length rest)
room_for_rest old mid text rest so_far h =
    let fits : HasRoom old.room (length so_far.front + length rest) =
    subst (λ n. HasRoom old.room n) (ap (λ t. length t) so_far.whole ∙ length-append so_far.front rest) h in
    subst (λ r. HasRoom r (length rest)) (sym so_far.left) (HasRoom-lowered old.room (length so_far.front) (length rest) fits)

-- a count that stays where the rest has room stays where the text has room
pub quiet_after : (old mid new : SinkView) (text rest : List ℕ)
    → Took old mid text rest → (HasRoom mid.room (length rest) → new.faults ≡ mid.faults)
    → HasRoom old.room (length text) → new.faults ≡ old.faults
quiet_after old mid new text rest so_far quiet h =
    quiet (room_for_rest old mid text rest so_far h) ∙ so_far.quiet h

-- a further piece was taken from the rest's front
pub took_more : (old mid new : SinkView) (text rest piece after : List ℕ)
    → Took old mid text rest
    → rest ≡ piece ++ after
    → new.told ≡ appended mid.told piece
    → new.room ≡ lowered mid.room (length piece)
    → mid.faults ≤ new.faults
    → (HasRoom mid.room (length rest) → new.faults ≡ mid.faults)
    → Took old new text after
took_more old mid new text rest piece after so_far cut bytes left later quiet = record {
  front = so_far.front ++ piece;
  whole = so_far.whole ∙ ap (λ r. so_far.front ++ r) cut ∙ sym (append_assoc so_far.front piece after);
  bytes = bytes ∙ ap (λ t. appended t piece) so_far.bytes ∙ appended-appended old.told so_far.front piece;
  left = left ∙ ap (λ r. lowered r (length piece)) so_far.left ∙ lowered-lowered old.room (length so_far.front) (length piece) ∙ ap (λ n. lowered old.room n) (sym (length-append so_far.front piece));
  later = omega (arith, so_far.later, later);
  quiet = quiet_after old mid new text rest so_far quiet;
}

-- a last piece was taken in part
pub took_part : (old mid new : SinkView) (text rest piece after : List ℕ)
    → Took old mid text rest → rest ≡ piece ++ after → TookPrefix mid new piece → TookPrefix old new text
took_part old mid new text rest piece after so_far cut part = record {
  front = so_far.front ++ part.front;
  back = part.back ++ after;
  parts = so_far.whole ∙ ap (λ r. so_far.front ++ r) (cut ∙ ap (λ p. p ++ after) part.parts ∙ append_assoc part.front part.back after) ∙ sym (append_assoc so_far.front part.front (part.back ++ after));
  taken = part.taken ∙ ap (λ t. appended t part.front) so_far.bytes ∙ appended-appended old.told so_far.front part.front;
}

pub on_err : {T E P : Type 0} (r : Result T E) → P → OnErr r P
on_err (Ok x) p = tt
on_err (Err e) p = p

-- the front that a call took, as the piece that was cut off
pub appended-front : (told : Option (List ℕ)) (rest piece : List ℕ) (m n : ℕ) → n ≡ m → piece ≡ take n rest → appended told (take m rest) ≡ appended told piece
appended-front told rest piece m n same cut = ap (λ p. appended told p) (ap (λ k. take k rest) (sym same) ∙ sym cut)

-- its length
pub lowered-front : (room : Option ℕ) (piece : List ℕ) (m n : ℕ) → n ≡ m → length piece ≡ n → lowered room m ≡ lowered room (length piece)
lowered-front room piece m n same size = ap (λ k. lowered room k) (sym same ∙ sym size)

-- what is at most a length
pub within_min : {E : Type 0} (r : Result ℕ E) (most size : ℕ) → IfOk r (λ taken. taken ≡ min most size) → IfOk r (λ taken. taken ≤ size)
within_min (Ok taken) most size h = omega (arith, h)
within_min (Err e) most size h = tt

-- nothing was taken at an error alone
pub none_at_err : {E P : Type 0} (r : Result ℕ E) → IfOk r (λ taken. 0 < taken) → OnErr r P → result_unwrap_or r 0 ≡ 0 → P
none_at_err (Ok taken) some err none = absurd (omega (arith, some, none))
none_at_err (Err e) some err none = err

pub at_ok : {T E P Q : Type 0} (r : Result T E) → (IsErr r → Q) → (Q → ⊥) → OnOk r P → P
at_ok (Ok x) why not_so ok = ok
at_ok (Err e) why not_so ok = absurd (not_so (why refl))
