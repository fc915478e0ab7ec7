use Rattle.std.proofs.Common.{◌≡◌, ◌*◌, ◌≤◌, length, sym, ap, ◌∙◌, arith, length-take, take_all, rules}
use Rattle.register_records.proofs.Common.{WORD_LEN, Target, items_in, ranks_in, RANK_ROOM}
use Rattle.register_records.specs.declared.short_lists.ShortList.{ShortList}
use Rattle.register_records.proofs.TargetRankLemmas.{more_compared, one_list}
use Rattle.register_records.proofs.target_lists.TargetList.is_same.Goals as goal

short : (list : ShortList Target) → length (items_in list) ≤ RANK_ROOM
short list = omega (arith, length-take list.count list.items, list.few)

pub words-preserved : goal.words-preserved
words-preserved c = search (rules, more_compared)

pub returns : goal.returns
returns c =
    let a = c.args.self.now in
    let b = c.args.other.now in
    let end = c.words.i * WORD_LEN in
    let all : length a.ranks ≡ RANK_ROOM = search rules in
    let other_all : length b.ranks ≡ RANK_ROOM = search rules in
    let whole = take_all end a.ranks (omega (arith, c.words-test.false)) in
    let other_whole = take_all end b.ranks (omega (arith, c.words-test.false)) in (
      λ e. one_list RANK_ROOM _ _ (short a.items) (short b.items)
          (sym a.ranked ∙ sym whole ∙ c.words.invariant.0 e ∙ other_whole ∙ b.ranked),
      λ e. c.words.invariant.1 (whole ∙ a.ranked ∙ ap (ranks_in RANK_ROOM) e ∙ sym b.ranked ∙ sym other_whole),
    )
