use Rattle.std.proofs.Common.{◌∙◌, arith}
use Rattle.formats.proofs.Inputs.{place_is, past_extra, inside, element, behind}
use Rattle.formats.proofs.input.read_input.Goals as goal

-- what stands behind the extra byte is the rest
pub returns : goal.returns
returns c =
    let bytes = c.args.bytes.now in
    let row = c.args.row.now in
    let tail = c.in-Some-len1-up.field-0.now in
    let is = c.in-Some-len1-up.ensures.lookup.0.2 in
    let some = c.in-Some-len1-up.len_at_least in
    let told = c.in_ok-shape.ensures in
    let at = place_is bytes row _ told.0 told.1 in
    let within = inside bytes tail _ is some in
    let first = element bytes tail _ is some in
    let rest = behind bytes tail _ is some in
    let accepted = past_extra bytes row _ told.0 told.1 within in
    (accepted ∙ c.in_ok-read.ensures.accepted, told.1, cc, omega (arith, at), cc)
