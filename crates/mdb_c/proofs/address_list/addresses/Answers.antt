use Rattle.std.proofs.Common.{◌∙◌, [], sym}
use Rattle.mdb_base.specs.AddressRule.{IsAddressText}
use Rattle.mdb_c.proofs.Zips.{texts_more, texts_never}
use Rattle.mdb_c.proofs.address_list.addresses.Goals as goal

pub returns-in-Err-clause-bad : goal.returns-in-Err-clause-bad
returns-in-Err-clause-bad c = λ bad hosts zip.
    texts_never IsAddressText c.args.texts.now hosts c.loop-text.text-index (record { ref_ptr = (0, 0); now = [] }) c.loop-text-test.true
    (λ a r. cc (sym bad ∙ c.in-Err.ensures.only a r)) zip

pub loop-text-preserved : goal.loop-text-preserved
loop-text-preserved c =
    rw c.in-Ok-push.ensures.items
    (texts_more IsAddressText c.args.texts.now c.loop-text.hosts.items c.loop-text.text-index (record { ref_ptr = (0, 0); now = [] }) c.in-Ok.host c.loop-text-test.true
    c.loop-text.invariant c.in-Ok.ensures.found)
