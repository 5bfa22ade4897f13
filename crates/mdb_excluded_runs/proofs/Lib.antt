mod Drivers
