use Rattle.std.proofs.Common.{◌≡◌, length}
use Rattle.std.specs.String.{string_bytes}
use Rattle.std.specs.Iterator.Adapters.{zip_first, zip_second}
use Rattle.std.specs.Slice.Iter.{iter_rest}
use Rattle.std.proofs.lemmas.Slice.Zip.{zip_end}
use Rattle.txn_journal.proofs.BundleWriting.{all_brought}
use Rattle.txn_journal.proofs.bundle_writer.write_channels.Goals as goal

pub returns : goal.returns
returns c =
    let first : iter_rest (zip_first c.into_iter-channel-iterator.result) ≡ c.args.channels.now = cc in
    let second : iter_rest (zip_second c.into_iter-channel-iterator.result) ≡ c.args.journals.now = cc in
    all_brought (string_bytes c.loop-channel.out) _ c.args.version c.args.schema.now c.args.channels.now c.args.journals.now (length c.loop-channel.yielded)
    (zip_end c.args.channels.now c.args.journals.now c.loop-channel.yielded c.into_iter-channel-iterator.result c.loop-channel.channel-iterator c.next.new.self c.next.result first second c.loop-channel.yielded_by c.in-None.is c.next.ensures.steps)
    c.loop-channel.invariant
