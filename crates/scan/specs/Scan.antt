-- What the answer of the scan means by the rules.
use Rattle.rules.specs.Scan as rules
use Rattle.kmer.specs.Kmer.{kmer_of}
use Rattle.scan.specs.declared.Scan.{Scan}

-- The rules' scan.
abbrev pub scan_of : Scan → rules.Scan
scan_of r = record { index = r.index; end = kmer_of r.end; lookups = r.lookups }
