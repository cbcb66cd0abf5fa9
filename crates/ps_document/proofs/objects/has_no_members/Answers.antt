use Rattle.ps_document.proofs.Members.{no_entries}
use Rattle.ps_document.proofs.objects.has_no_members.Goals as goal

pub returns : goal.returns
returns c =
    let n = no_entries c.args.members.now.entries in
    let e = c.is_empty.ensures in
    (λ h. n.0 (e.0 h), λ h. e.1 (n.1 h))
