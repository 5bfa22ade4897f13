-- What errors of a hello become.
use Rattle.mdb_hello.specs.declared.error.HelloError.{HelloError}
use Rattle.mdb_hello.specs.declared.error.HelloError.TheVariants as hello
use Rattle.mdb_hello.specs.declared.error.LinkError.{LinkError}
use Rattle.mdb_hello.specs.declared.error.LinkError.TheVariants as link
use Rattle.mdb_hello.specs.declared.error.RunHelloError.{RunHelloError}
use Rattle.mdb_hello.specs.declared.error.RunHelloError.TheVariants as run

abbrev pub run_from_link : LinkError → RunHelloError
run_from_link (link.Failed error) = run.Link error
run_from_link link.OutOfMemory = run.OutOfMemory

abbrev pub run_from_hello : HelloError → RunHelloError
run_from_hello (hello.BadField name) = run.BadField name
run_from_hello hello.OutOfMemory = run.OutOfMemory
