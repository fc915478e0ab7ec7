use Rattle.std.proofs.Common.{◌≡◌, ◌∙◌, ◌∷◌, [], ℕ, List, rules}
use Rattle.sheets.proofs.Common.{name_record, name_seen}
use Rattle.std.specs.Fmt.{decimal}
use Rattle.sheets.specs.UnknownNames.{in_text}
use Rattle.sheets.proofs.LineLemmas.{both_gained, gained_at_last}
use Rattle.sheets.proofs.stopped_dates.push_name.Goals as goal
use Rattle.sheets.proofs.stopped_dates.push_name.Goals.{in-None, in-Some}

same_four : {a b c d e f g : List ℕ} → a ≡ e → c ≡ f → d ≡ g → a ∷ b ∷ c ∷ d ∷ [] ≡ e ∷ b ∷ f ∷ g ∷ []
same_four x y z = cc

pub returns : goal.returns
returns c =
    let old = c.args.lines.now in
    let name = c.args.name.now in
    let calendar : c.match-name.calendar.now ≡ in_text name.calendar =
    elim c.match-name.branch [ in-Some w ↦ search rules | in-None w ↦ search rules ] in
    let count : c.as_bytes.result.now ≡ decimal name.count = c.as_bytes.ensures.value ∙ c.format.ensures.text in
    gained_at_last c.push-4.result _ _ (name_record (name_seen name)) old c.push-3.new.self c.push-4.new.self
    (both_gained _ _ old c.push-2.new.self c.push-3.new.self
    (both_gained _ _ old c.push.new.self c.push-2.new.self c.in_ok-push.ensures c.in_ok-push-2.ensures)
    c.in_ok-push-3.ensures) c.push-4.ensures (same_four c.as_slice.ensures.value calendar count)
