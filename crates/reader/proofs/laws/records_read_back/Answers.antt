-- By what stands at the front: always something, and one thing.
use Rattle.reader.proofs.Readback.{read_one_way, records_read_back}
use Rattle.reader.proofs.Reading.{reads_some_way}
use Rattle.reader.proofs.laws.records_read_back.Goals as goal

pub returns : goal.returns
returns c = record { some = reads_some_way; one = read_one_way; back = records_read_back }
