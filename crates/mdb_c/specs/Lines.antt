-- The lines of the calls that carry a text.
use Rattle.std.specs.Prelude.{ℕ, List, ◌++◌, decimal, codes}
use Rattle.mdb_session.specs.declared.at.At.{At}
use Rattle.mdb_c.specs.declared.connections.ConnectionNumbers.{ConnectionNumbers}

abbrev pub error_line : At → ℕ → List ℕ → List ℕ
error_line at party error = codes "error " ++ (decimal at.moment ++ (codes " " ++ (decimal party ++ (codes " " ++ error))))

abbrev pub failed_line : At → ConnectionNumbers → List ℕ → List ℕ
failed_line at c outcome = codes "failed " ++ (decimal at.moment ++ (codes " " ++ (decimal c.pool ++ (codes " " ++ (decimal c.id ++ (codes " " ++ outcome))))))

abbrev pub hello_line : At → List ℕ → List ℕ → List ℕ
hello_line at monitor outcome = codes "hello " ++ (decimal at.moment ++ (codes " " ++ (monitor ++ (codes " " ++ outcome))))

abbrev pub beaten_line : At → List ℕ → List ℕ → List ℕ
beaten_line at monitor outcome = codes "beaten " ++ (decimal at.moment ++ (codes " " ++ (monitor ++ (codes " " ++ outcome))))

abbrev pub hosts_line : At → List ℕ → List ℕ
hosts_line at hosts = codes "hosts " ++ (decimal at.moment ++ (codes " " ++ hosts))

abbrev pub rtt_line : At → List ℕ → ℕ → List ℕ
rtt_line at monitor nanos = codes "rtt " ++ (decimal at.moment ++ (codes " " ++ (monitor ++ (codes " " ++ decimal nanos))))

-- when a line is that is no step
abbrev pub no_moment : At
no_moment = record { moment = 0; seat = 0 }
