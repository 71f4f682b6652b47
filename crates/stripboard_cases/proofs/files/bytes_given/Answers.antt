use Rattle.stripboard_cases.proofs.Hands.{within_held}
use Rattle.stripboard_cases.proofs.files.bytes_given.Goals as goal

pub returns-in-Some : goal.returns-in-Some
returns-in-Some c = within_held c.args.files.now c.args.given.now.base c.in-Within.of c.in-Within.row c.args.given.now.text.items c.in-Some.bytes.items
    c.in_ok-bytes_at_hand-in-Within.field-0.now c.in-Within.is c.in_ok-bytes_at_hand-in-Within.ensures
