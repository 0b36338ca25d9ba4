use Rattle.sn_text.specs.Lexing.{place, token_of}
use Rattle.sn_text.proofs.Next.{scan_next}
use Rattle.sn_text.proofs.scan.scan.Goals as goal

pub returns : goal.returns
returns c = scan_next (place c.args.from) (place c.scan_at.result.1) (token_of c.scan_at.result.0) c.scan_at.ensures.token c.scan_at.ensures.after
