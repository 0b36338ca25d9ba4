use Rattle.std.proofs.Common.{refl}
use Rattle.sn_pcap.proofs.LeftLemmas.{left_some, left_once, run_records}
use Rattle.sn_pcap.proofs.reader.reader_gives_the_records.Goals as goal

pub returns-clause-whole : goal.returns-clause-whole
returns-clause-whole c header file seens last packets ending run are = run_records packets ending run refl are

pub returns-clause-some : goal.returns-clause-some
returns-clause-some c file reader = left_some file reader

pub returns-clause-once : goal.returns-clause-once
returns-clause-once c file reader ps qs e f left also = left_once file reader ps qs e f left also
