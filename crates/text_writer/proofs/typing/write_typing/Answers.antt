use Rattle.text_writer.proofs.Starts.{kept_after}
use Rattle.text_writer.proofs.typing.write_typing.Goals as goal

pub returns-in_ok-put-in-Symbol-clause-kept : goal.returns-in_ok-put-in-Symbol-clause-kept
returns-in_ok-put-in-Symbol-clause-kept c =
    let named = c.write_name-in-Symbol.new.out.items in
    kept_after c.write_type.result c.args.out.now.items named c.write_type.new.out.items _ c.in_ok-write_name-in-Symbol.ensures.text
    (kept_after c.write_type.result named c.put-in-Symbol.new.out.items c.write_type.new.out.items _ c.in_ok-put-in-Symbol.ensures.text c.write_type.ensures.kept)
