use Rattle.std.proofs.Common.{◌≡◌, rules}
use Rattle.link.specs.Calls.{opened}
use Rattle.link.specs.Steps.{reply}
use Rattle.cbeam128r1.specs.OneShot.{decrypt_reply}
use Rattle.cbeam128r1.proofs.OneTelegram.{opened_single}
use Rattle.cbeam128r1.proofs.Exactness.{exact_reply}
use Rattle.cbeam128r1.proofs.one_shot.decrypt.Goals as goal

pub returns-clause-exact : goal.returns-clause-exact
returns-clause-exact c =
    let a = c.args in
    let published : reply (opened c.length.result) c.in_session.new.output
    ≡ decrypt_reply a.key.now a.nonce.now a.aad.now a.sealed.now a.output.now = search (rules, opened_single) in
    search (rules, exact_reply, published)
