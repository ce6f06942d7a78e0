use Rattle.std.proofs.Common.{◌∙◌, ◌||◌, ◌&&◌, ℕ, Bool, List, false, get_or, length, nat_eq, ap}
use Rattle.jvm_model.specs.State.{test_at}
use Rattle.jvm_model.specs.declared.values.Touch.{Touch}
use Rattle.access_tags.specs.{Given.is_given, HeadMarks.is_marked, HeadMarks.touches_class}
use Rattle.access_tags.proofs.Reaching.{reach_is}
use Rattle.access_tags.proofs.heads.Heads.reach.Goals as goal

pub returns : goal.returns
returns c kinds T S t ts n m f s =
    let p = c.args.p.now in
    let h = c.args.self.now in
    let test = c.args.test in
    let none : ℕ → Bool = λ i. get_or c.in_ok-reached.reached.marks.items i false in
    let one : ℕ → Bool = λ i. get_or c.add.new.self.marks.items i false in
    let two : ℕ → Bool = λ i. get_or c.add_marked.new.reached.marks.items i false in
    let all : ℕ → Bool = λ i. get_or c.close.new.self.marks.items i false in
    let fresh = c.in_ok-reached.ensures.count in
    let given = c.add_marked.ensures.count ∙ (c.add.ensures.count ∙ (fresh ∙ n)) in
    reach_is p S kinds test h.classes h.marks none one two all c.args.settled c.in_ok-classes.classes n
    (λ i l. m test i l ∙ ap (λ (us : List Touch). touches_class (kinds test) i us) f)
    c.in_ok-reached.ensures.none
    (λ i. c.in_ok-add.ensures.has i ∙ (ap (λ (x : ℕ). none i || (nat_eq i x && is_given (length c.in_ok-reached.reached.marks.items) i)) c.test_class.ensures ∙ ap (λ (k : ℕ). none i || (nat_eq i (test_at p test).class && is_given k i)) fresh))
    (λ i. c.in_ok-add_marked.ensures.has i ∙ ap (λ (k : ℕ). one i || (is_marked h.classes h.marks test i && is_given k i)) (c.add.ensures.count ∙ fresh))
    c.in_ok-close.ensures.kept (c.in_ok-close.ensures.closed given) (λ g. c.in_ok-close.ensures.least given S kinds test g) s c.in_ok-classes.ensures.ascending c.in_ok-classes.ensures.numbers
